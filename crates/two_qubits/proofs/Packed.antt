-- An entry read back from its number.
-- Assumes nothing.
use mathlib.Core.Path.{◌≡◌, ap₂, ◌∙◌}
use mathlib.Core.Bool.{true, and-eq-true_iff}
use Prim.Native.Nat.{ℕ, ◌+◌, ◌*◌, ◌/◌, ◌%◌, ◌<◌}
use native.Mathlib.Omega.{arith}
use lib.Dec.{ltb}
use lib.ListN.{length, get_or, get_or-map}
use borrow.Author.Tests.{ltb-true}
use Rattle.blocks.proofs.All.{All-at}
use Rattle.symplectic.proofs.Lists.{all_true}
use Rattle.two_qubits.specs.declared.Entry.{Entry}
use Rattle.two_qubits.specs.Codes.{code_count}
use Rattle.two_qubits.specs.Book.{◌takes◌, book}
use Rattle.two_qubits.specs.inner.Rules.{pack, packed, fits}
use Rattle.two_qubits.proofs.Computed.{all_fit}

pub record Fits (e : Entry) : Type 0 where
  pub code : e.code < code_count
  pub length : e.length < 16

-- an entry of the book
pub entry_fits : (i : ℕ) → i < length book → Fits (get_or book i (0 takes 0))
unfolding fits
entry_fits i h =
    let e = get_or book i (0 takes 0) in
    let k = (and-eq-true_iff (ltb e.code code_count) (ltb e.length 16)).0 (All-at (λ (x : Entry). fits x ≡ true) book (all_true fits book all_fit) i (0 takes 0) h) in
    record { code = ltb-true e.code code_count k.0; length = ltb-true e.length 16 k.1 }

pub unpacked : (i word : ℕ) → i < length book → word ≡ get_or packed i 0 → (word / 16 % code_count) takes (word % 16) ≡ get_or book i (0 takes 0)
unfolding packed
unpacked i word h w =
    let e = get_or book i (0 takes 0) in
    let f = entry_fits i h in
    let is : word ≡ e.code * 16 + e.length = w ∙ get_or-map pack book i (0 takes 0) in
    ap₂ ◌takes◌ (code_of word e.code e.length is f.code f.length) (length_of word e.code e.length is f.length)
  where
    code_of : (w c k : ℕ) → w ≡ c * 16 + k → c < code_count → k < 16 → w / 16 % code_count ≡ c
    code_of w c k e l m = omega arith

    length_of : (w c k : ℕ) → w ≡ c * 16 + k → k < 16 → w % 16 ≡ k
    length_of w c k e m = omega arith
