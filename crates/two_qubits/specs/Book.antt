-- The book of the two-qubit actions (document 02, item 10): all 720, their codes ascending, the least length beside each.
-- Assumes nothing.
use Rattle.std.specs.Prelude.{List, [], ◌∷◌, ℕ}
use Rattle.two_qubits.specs.declared.Entry.{Entry}

-- the action of a code takes so many turns
infix 70 ◌takes◌
abbrev pub ◌takes◌ : ℕ → ℕ → Entry
code takes length = record { code = code; length = length }

unfoldable pub book : List Entry
book =
    4680 takes 3 ∷ 4682 takes 4 ∷ 4696 takes 4 ∷ 4698 takes 5 ∷ 4713 takes 4 ∷ 4715 takes 5 ∷ 4729 takes 5 ∷ 4731 takes 4 ∷
    5064 takes 2 ∷ 5067 takes 3 ∷ 5080 takes 3 ∷ 5083 takes 4 ∷ 5097 takes 4 ∷ 5098 takes 3 ∷ 5113 takes 5 ∷ 5114 takes 4 ∷
    6210 takes 4 ∷ 6218 takes 5 ∷ 6226 takes 5 ∷ 6234 takes 4 ∷ 6339 takes 3 ∷ 6347 takes 4 ∷ 6355 takes 4 ∷ 6363 takes 3 ∷
    6498 takes 3 ∷ 6507 takes 4 ∷ 6514 takes 4 ∷ 6523 takes 5 ∷ 6627 takes 5 ∷ 6634 takes 4 ∷ 6643 takes 4 ∷ 6650 takes 3 ∷
    6722 takes 5 ∷ 6728 takes 4 ∷ 6738 takes 4 ∷ 6744 takes 3 ∷ 6883 takes 4 ∷ 6889 takes 5 ∷ 6899 takes 5 ∷ 6905 takes 4 ∷
    7010 takes 4 ∷ 7017 takes 5 ∷ 7026 takes 3 ∷ 7033 takes 4 ∷ 7107 takes 4 ∷ 7112 takes 3 ∷ 7123 takes 3 ∷ 7128 takes 2 ∷
    8580 takes 2 ∷ 8581 takes 3 ∷ 8598 takes 5 ∷ 8599 takes 4 ∷ 8612 takes 3 ∷ 8613 takes 4 ∷ 8630 takes 4 ∷ 8631 takes 3 ∷
    9156 takes 5 ∷ 9159 takes 4 ∷ 9173 takes 4 ∷ 9174 takes 3 ∷ 9188 takes 4 ∷ 9191 takes 3 ∷ 9205 takes 3 ∷ 9206 takes 2 ∷
    9345 takes 1 ∷ 9349 takes 2 ∷ 9377 takes 2 ∷ 9381 takes 3 ∷ 9411 takes 4 ∷ 9415 takes 3 ∷ 9443 takes 3 ∷ 9447 takes 2 ∷
    9601 takes 2 ∷ 9604 takes 3 ∷ 9633 takes 3 ∷ 9636 takes 4 ∷ 9683 takes 5 ∷ 9686 takes 4 ∷ 9715 takes 4 ∷ 9718 takes 3 ∷
    9873 takes 4 ∷ 9879 takes 5 ∷ 9905 takes 3 ∷ 9911 takes 4 ∷ 9939 takes 4 ∷ 9941 takes 5 ∷ 9971 takes 3 ∷ 9973 takes 4 ∷
    10129 takes 3 ∷ 10134 takes 4 ∷ 10161 takes 2 ∷ 10166 takes 3 ∷ 10179 takes 5 ∷ 10180 takes 4 ∷ 10211 takes 4 ∷ 10212 takes 3 ∷
    12684 takes 5 ∷ 12685 takes 4 ∷ 12702 takes 3 ∷ 12703 takes 2 ∷ 12718 takes 4 ∷ 12719 takes 3 ∷ 12732 takes 4 ∷ 12733 takes 3 ∷
    12876 takes 2 ∷ 12878 takes 3 ∷ 12893 takes 3 ∷ 12895 takes 4 ∷ 12909 takes 4 ∷ 12911 takes 5 ∷ 12924 takes 3 ∷ 12926 takes 4 ∷
    15426 takes 3 ∷ 15438 takes 4 ∷ 15474 takes 4 ∷ 15486 takes 5 ∷ 15489 takes 4 ∷ 15501 takes 5 ∷ 15537 takes 3 ∷ 15549 takes 4 ∷
    15698 takes 4 ∷ 15711 takes 3 ∷ 15714 takes 5 ∷ 15727 takes 4 ∷ 15745 takes 3 ∷ 15756 takes 4 ∷ 15793 takes 2 ∷ 15804 takes 3 ∷
    15938 takes 4 ∷ 15948 takes 3 ∷ 15986 takes 5 ∷ 15996 takes 4 ∷ 16017 takes 2 ∷ 16031 takes 3 ∷ 16033 takes 3 ∷ 16047 takes 4 ∷
    16210 takes 3 ∷ 16221 takes 2 ∷ 16226 takes 4 ∷ 16237 takes 3 ∷ 16273 takes 1 ∷ 16286 takes 2 ∷ 16289 takes 2 ∷ 16302 takes 3 ∷
    16920 takes 4 ∷ 16922 takes 5 ∷ 16956 takes 3 ∷ 16958 takes 4 ∷ 16984 takes 5 ∷ 16986 takes 4 ∷ 17020 takes 4 ∷ 17022 takes 3 ∷
    18072 takes 3 ∷ 18078 takes 4 ∷ 18106 takes 4 ∷ 18108 takes 5 ∷ 18136 takes 4 ∷ 18142 takes 3 ∷ 18170 takes 5 ∷ 18172 takes 4 ∷
    18450 takes 3 ∷ 18458 takes 4 ∷ 18514 takes 4 ∷ 18522 takes 3 ∷ 18582 takes 2 ∷ 18590 takes 3 ∷ 18646 takes 3 ∷ 18654 takes 2 ∷
    18962 takes 4 ∷ 18968 takes 5 ∷ 19026 takes 5 ∷ 19032 takes 4 ∷ 19126 takes 3 ∷ 19132 takes 4 ∷ 19190 takes 4 ∷ 19196 takes 3 ∷
    19506 takes 4 ∷ 19518 takes 5 ∷ 19570 takes 5 ∷ 19582 takes 4 ∷ 19638 takes 4 ∷ 19642 takes 5 ∷ 19702 takes 5 ∷ 19706 takes 4 ∷
    20018 takes 5 ∷ 20028 takes 4 ∷ 20082 takes 4 ∷ 20092 takes 5 ∷ 20118 takes 3 ∷ 20120 takes 4 ∷ 20182 takes 4 ∷ 20184 takes 3 ∷
    21016 takes 5 ∷ 21018 takes 4 ∷ 21053 takes 4 ∷ 21055 takes 5 ∷ 21064 takes 4 ∷ 21066 takes 3 ∷ 21101 takes 5 ∷ 21103 takes 4 ∷
    22424 takes 4 ∷ 22431 takes 3 ∷ 22458 takes 5 ∷ 22461 takes 4 ∷ 22472 takes 3 ∷ 22479 takes 2 ∷ 22506 takes 4 ∷ 22509 takes 3 ∷
    22546 takes 4 ∷ 22554 takes 5 ∷ 22594 takes 5 ∷ 22602 takes 4 ∷ 22679 takes 3 ∷ 22687 takes 4 ∷ 22727 takes 4 ∷ 22735 takes 3 ∷
    23058 takes 3 ∷ 23064 takes 4 ∷ 23106 takes 4 ∷ 23112 takes 5 ∷ 23223 takes 4 ∷ 23229 takes 5 ∷ 23271 takes 5 ∷ 23277 takes 4 ∷
    23858 takes 5 ∷ 23871 takes 4 ∷ 23906 takes 4 ∷ 23919 takes 3 ∷ 23991 takes 3 ∷ 23994 takes 4 ∷ 24039 takes 4 ∷ 24042 takes 5 ∷
    24370 takes 4 ∷ 24381 takes 3 ∷ 24418 takes 5 ∷ 24429 takes 4 ∷ 24471 takes 2 ∷ 24472 takes 3 ∷ 24519 takes 3 ∷ 24520 takes 4 ∷
    25113 takes 3 ∷ 25115 takes 4 ∷ 25149 takes 5 ∷ 25151 takes 4 ∷ 25181 takes 4 ∷ 25183 takes 3 ∷ 25209 takes 4 ∷ 25211 takes 5 ∷
    25737 takes 4 ∷ 25741 takes 3 ∷ 25771 takes 3 ∷ 25775 takes 2 ∷ 25803 takes 2 ∷ 25807 takes 1 ∷ 25833 takes 3 ∷ 25837 takes 2 ∷
    26898 takes 2 ∷ 26907 takes 3 ∷ 26994 takes 3 ∷ 27003 takes 4 ∷ 27012 takes 5 ∷ 27021 takes 4 ∷ 27108 takes 4 ∷ 27117 takes 3 ∷
    27410 takes 3 ∷ 27417 takes 4 ∷ 27506 takes 4 ∷ 27513 takes 5 ∷ 27556 takes 4 ∷ 27567 takes 3 ∷ 27588 takes 3 ∷ 27599 takes 2 ∷
    27954 takes 4 ∷ 27967 takes 3 ∷ 27986 takes 3 ∷ 27999 takes 2 ∷ 28036 takes 4 ∷ 28041 takes 5 ∷ 28132 takes 3 ∷ 28137 takes 4 ∷
    28466 takes 5 ∷ 28477 takes 4 ∷ 28498 takes 4 ∷ 28509 takes 3 ∷ 28580 takes 3 ∷ 28587 takes 4 ∷ 28612 takes 2 ∷ 28619 takes 3 ∷
    29209 takes 4 ∷ 29211 takes 3 ∷ 29244 takes 4 ∷ 29246 takes 3 ∷ 29260 takes 3 ∷ 29262 takes 2 ∷ 29289 takes 5 ∷ 29291 takes 4 ∷
    30089 takes 5 ∷ 30092 takes 4 ∷ 30123 takes 4 ∷ 30126 takes 3 ∷ 30171 takes 3 ∷ 30174 takes 2 ∷ 30201 takes 4 ∷ 30204 takes 3 ∷
    30994 takes 3 ∷ 31003 takes 4 ∷ 31074 takes 4 ∷ 31083 takes 5 ∷ 31109 takes 4 ∷ 31116 takes 3 ∷ 31221 takes 3 ∷ 31228 takes 2 ∷
    31506 takes 2 ∷ 31513 takes 3 ∷ 31586 takes 3 ∷ 31593 takes 4 ∷ 31653 takes 3 ∷ 31662 takes 2 ∷ 31701 takes 2 ∷ 31710 takes 1 ∷
    31794 takes 5 ∷ 31806 takes 4 ∷ 31810 takes 4 ∷ 31822 takes 3 ∷ 31877 takes 5 ∷ 31881 takes 4 ∷ 31989 takes 4 ∷ 31993 takes 3 ∷
    32306 takes 4 ∷ 32316 takes 5 ∷ 32322 takes 3 ∷ 32332 takes 4 ∷ 32421 takes 4 ∷ 32427 takes 3 ∷ 32469 takes 3 ∷ 32475 takes 2 ∷
    33060 takes 1 ∷ 33061 takes 2 ∷ 33084 takes 4 ∷ 33085 takes 3 ∷ 33188 takes 2 ∷ 33189 takes 3 ∷ 33212 takes 3 ∷ 33213 takes 2 ∷
    33825 takes 0 ∷ 33829 takes 1 ∷ 33897 takes 3 ∷ 33901 takes 2 ∷ 33953 takes 1 ∷ 33957 takes 2 ∷ 34025 takes 2 ∷ 34029 takes 1 ∷
    34081 takes 1 ∷ 34084 takes 2 ∷ 34169 takes 4 ∷ 34172 takes 3 ∷ 34209 takes 2 ∷ 34212 takes 3 ∷ 34297 takes 3 ∷ 34300 takes 2 ∷
    35172 takes 4 ∷ 35181 takes 3 ∷ 35189 takes 3 ∷ 35196 takes 2 ∷ 35300 takes 3 ∷ 35309 takes 2 ∷ 35317 takes 2 ∷ 35324 takes 1 ∷
    35889 takes 3 ∷ 35901 takes 4 ∷ 35957 takes 4 ∷ 35961 takes 3 ∷ 36017 takes 2 ∷ 36029 takes 3 ∷ 36085 takes 3 ∷ 36089 takes 2 ∷
    36145 takes 2 ∷ 36156 takes 3 ∷ 36196 takes 3 ∷ 36201 takes 4 ∷ 36273 takes 1 ∷ 36284 takes 2 ∷ 36324 takes 2 ∷ 36329 takes 3 ∷
    37158 takes 4 ∷ 37159 takes 3 ∷ 37182 takes 4 ∷ 37183 takes 3 ∷ 37294 takes 5 ∷ 37295 takes 4 ∷ 37302 takes 5 ∷ 37303 takes 4 ∷
    38433 takes 3 ∷ 38439 takes 4 ∷ 38472 takes 4 ∷ 38478 takes 5 ∷ 38577 takes 4 ∷ 38583 takes 5 ∷ 38616 takes 5 ∷ 38622 takes 4 ∷
    38689 takes 2 ∷ 38694 takes 3 ∷ 38744 takes 5 ∷ 38751 takes 4 ∷ 38833 takes 3 ∷ 38838 takes 4 ∷ 38856 takes 4 ∷ 38863 takes 3 ∷
    38982 takes 3 ∷ 38990 takes 4 ∷ 38999 takes 4 ∷ 39007 takes 5 ∷ 39111 takes 5 ∷ 39119 takes 4 ∷ 39126 takes 4 ∷ 39134 takes 3 ∷
    40497 takes 3 ∷ 40511 takes 4 ∷ 40518 takes 4 ∷ 40520 takes 5 ∷ 40609 takes 4 ∷ 40623 takes 5 ∷ 40662 takes 5 ∷ 40664 takes 4 ∷
    40753 takes 2 ∷ 40766 takes 3 ∷ 40791 takes 3 ∷ 40792 takes 4 ∷ 40865 takes 3 ∷ 40878 takes 4 ∷ 40903 takes 4 ∷ 40904 takes 5 ∷
    41252 takes 2 ∷ 41253 takes 3 ∷ 41278 takes 5 ∷ 41279 takes 4 ∷ 41348 takes 3 ∷ 41349 takes 4 ∷ 41374 takes 4 ∷ 41375 takes 3 ∷
    42017 takes 1 ∷ 42021 takes 2 ∷ 42091 takes 4 ∷ 42095 takes 3 ∷ 42113 takes 2 ∷ 42117 takes 3 ∷ 42187 takes 3 ∷ 42191 takes 2 ∷
    42273 takes 2 ∷ 42276 takes 3 ∷ 42363 takes 5 ∷ 42366 takes 4 ∷ 42369 takes 3 ∷ 42372 takes 4 ∷ 42459 takes 4 ∷ 42462 takes 3 ∷
    43876 takes 5 ∷ 43887 takes 4 ∷ 43893 takes 4 ∷ 43902 takes 3 ∷ 43972 takes 4 ∷ 43983 takes 3 ∷ 43989 takes 3 ∷ 43998 takes 2 ∷
    44593 takes 4 ∷ 44607 takes 5 ∷ 44661 takes 5 ∷ 44667 takes 4 ∷ 44689 takes 3 ∷ 44703 takes 4 ∷ 44757 takes 4 ∷ 44763 takes 3 ∷
    44849 takes 3 ∷ 44862 takes 4 ∷ 44900 takes 4 ∷ 44907 takes 5 ∷ 44945 takes 2 ∷ 44958 takes 3 ∷ 44996 takes 3 ∷ 45003 takes 4 ∷
    45350 takes 3 ∷ 45351 takes 2 ∷ 45372 takes 5 ∷ 45373 takes 4 ∷ 45452 takes 4 ∷ 45453 takes 3 ∷ 45462 takes 4 ∷ 45463 takes 3 ∷
    46625 takes 2 ∷ 46631 takes 3 ∷ 46666 takes 5 ∷ 46668 takes 4 ∷ 46737 takes 3 ∷ 46743 takes 4 ∷ 46842 takes 4 ∷ 46844 takes 3 ∷
    46881 takes 1 ∷ 46886 takes 2 ∷ 46938 takes 4 ∷ 46941 takes 3 ∷ 46993 takes 2 ∷ 46998 takes 3 ∷ 47082 takes 3 ∷ 47085 takes 2 ∷
    47686 takes 4 ∷ 47692 takes 3 ∷ 47703 takes 5 ∷ 47709 takes 4 ∷ 47847 takes 4 ∷ 47853 takes 3 ∷ 47862 takes 3 ∷ 47868 takes 2 ∷
    48177 takes 4 ∷ 48189 takes 5 ∷ 48198 takes 5 ∷ 48202 takes 4 ∷ 48257 takes 3 ∷ 48269 takes 4 ∷ 48374 takes 4 ∷ 48378 takes 3 ∷
    48433 takes 3 ∷ 48444 takes 4 ∷ 48471 takes 4 ∷ 48474 takes 5 ∷ 48513 takes 2 ∷ 48524 takes 3 ∷ 48615 takes 3 ∷ 48618 takes 4 ∷
    49944 takes 3 ∷ 49947 takes 4 ∷ 49956 takes 4 ∷ 49959 takes 3 ∷ 50136 takes 4 ∷ 50139 takes 5 ∷ 50148 takes 5 ∷ 50151 takes 4 ∷
    50211 takes 3 ∷ 50215 takes 2 ∷ 50283 takes 3 ∷ 50287 takes 2 ∷ 50347 takes 4 ∷ 50351 takes 3 ∷ 50403 takes 4 ∷ 50407 takes 3 ∷
    50979 takes 4 ∷ 50980 takes 3 ∷ 51032 takes 4 ∷ 51039 takes 3 ∷ 51096 takes 5 ∷ 51103 takes 4 ∷ 51171 takes 5 ∷ 51172 takes 4 ∷
    51219 takes 4 ∷ 51227 takes 5 ∷ 51287 takes 5 ∷ 51295 takes 4 ∷ 51351 takes 4 ∷ 51359 takes 5 ∷ 51411 takes 5 ∷ 51419 takes 4 ∷
    51987 takes 5 ∷ 51992 takes 4 ∷ 52068 takes 4 ∷ 52079 takes 3 ∷ 52132 takes 5 ∷ 52143 takes 4 ∷ 52179 takes 4 ∷ 52184 takes 3 ∷
    53079 takes 4 ∷ 53080 takes 5 ∷ 53092 takes 3 ∷ 53099 takes 4 ∷ 53143 takes 3 ∷ 53144 takes 4 ∷ 53156 takes 4 ∷ 53163 takes 5 ∷
    54040 takes 4 ∷ 54043 takes 5 ∷ 54053 takes 3 ∷ 54054 takes 2 ∷ 54216 takes 3 ∷ 54219 takes 4 ∷ 54261 takes 4 ∷ 54262 takes 3 ∷
    54563 takes 4 ∷ 54566 takes 3 ∷ 54651 takes 4 ∷ 54654 takes 3 ∷ 54699 takes 5 ∷ 54702 takes 4 ∷ 54771 takes 5 ∷ 54774 takes 4 ∷
    54819 takes 3 ∷ 54821 takes 4 ∷ 54856 takes 5 ∷ 54862 takes 4 ∷ 54936 takes 4 ∷ 54942 takes 5 ∷ 55027 takes 4 ∷ 55029 takes 5 ∷
    55315 takes 5 ∷ 55323 takes 4 ∷ 55366 takes 4 ∷ 55374 takes 3 ∷ 55446 takes 3 ∷ 55454 takes 4 ∷ 55491 takes 4 ∷ 55499 takes 5 ∷
    56083 takes 4 ∷ 56088 takes 3 ∷ 56181 takes 3 ∷ 56190 takes 2 ∷ 56229 takes 4 ∷ 56238 takes 3 ∷ 56259 takes 5 ∷ 56264 takes 4 ∷
    56902 takes 5 ∷ 56904 takes 4 ∷ 56949 takes 4 ∷ 56955 takes 3 ∷ 56982 takes 4 ∷ 56984 takes 5 ∷ 56997 takes 5 ∷ 57003 takes 4 ∷
    58137 takes 5 ∷ 58138 takes 4 ∷ 58148 takes 3 ∷ 58151 takes 2 ∷ 58308 takes 4 ∷ 58311 takes 3 ∷ 58361 takes 4 ∷ 58362 takes 3 ∷
    58403 takes 2 ∷ 58407 takes 1 ∷ 58473 takes 4 ∷ 58477 takes 3 ∷ 58505 takes 3 ∷ 58509 takes 2 ∷ 58563 takes 3 ∷ 58567 takes 2 ∷
    59171 takes 3 ∷ 59172 takes 2 ∷ 59226 takes 5 ∷ 59229 takes 4 ∷ 59322 takes 4 ∷ 59325 takes 3 ∷ 59331 takes 4 ∷ 59332 takes 3 ∷
    59667 takes 4 ∷ 59674 takes 3 ∷ 59748 takes 5 ∷ 59757 takes 4 ∷ 59780 takes 4 ∷ 59789 takes 3 ∷ 59891 takes 3 ∷ 59898 takes 2 ∷
    59923 takes 5 ∷ 59929 takes 4 ∷ 59991 takes 4 ∷ 59997 takes 5 ∷ 60087 takes 3 ∷ 60093 takes 4 ∷ 60147 takes 4 ∷ 60153 takes 3 ∷
    60759 takes 3 ∷ 60762 takes 4 ∷ 60772 takes 4 ∷ 60777 takes 5 ∷ 60804 takes 3 ∷ 60809 takes 4 ∷ 60855 takes 2 ∷ 60858 takes 3 ∷
    62233 takes 4 ∷ 62234 takes 3 ∷ 62245 takes 2 ∷ 62246 takes 1 ∷ 62421 takes 3 ∷ 62422 takes 2 ∷ 62441 takes 3 ∷ 62442 takes 2 ∷
    62755 takes 3 ∷ 62758 takes 2 ∷ 62841 takes 5 ∷ 62844 takes 4 ∷ 62857 takes 4 ∷ 62860 takes 3 ∷ 62931 takes 4 ∷ 62934 takes 3 ∷
    63011 takes 2 ∷ 63013 takes 3 ∷ 63050 takes 4 ∷ 63052 takes 5 ∷ 63162 takes 3 ∷ 63164 takes 4 ∷ 63187 takes 3 ∷ 63189 takes 4 ∷
    63763 takes 5 ∷ 63770 takes 4 ∷ 63861 takes 4 ∷ 63868 takes 3 ∷ 63877 takes 3 ∷ 63884 takes 2 ∷ 63971 takes 4 ∷ 63978 takes 3 ∷
    64019 takes 4 ∷ 64025 takes 5 ∷ 64070 takes 3 ∷ 64076 takes 4 ∷ 64182 takes 2 ∷ 64188 takes 3 ∷ 64227 takes 3 ∷ 64233 takes 4 ∷
    64582 takes 4 ∷ 64586 takes 5 ∷ 64629 takes 5 ∷ 64633 takes 4 ∷ 64645 takes 4 ∷ 64649 takes 3 ∷ 64694 takes 3 ∷ 64698 takes 4 ∷
    []
