-- `read` reads from the last byte: one more byte goes in front of those that were read, and 8 of them fit 64 bits.
use Rattle.std.proofs.Common.{arith, ◌≡◌, suc, ◌-◌, ◌+◌}
use Rattle.numbers.proofs.Numbers.{reading_starts, number_more, bound_more, seven_bytes}
use Rattle.numbers.proofs.read.Goals as goal

pub loop-i-init : goal.loop-i-init
loop-i-init c =
    let s = c.args in
    let t = reading_starts s.bytes.now (s.from + s.size) s.size in
    record { read = t.0; below = t.1 }

pub overflow_mul-v : goal.overflow_mul-v
overflow_mul-v c =
    let l = c.loop-i in
    omega (arith, seven_bytes l.v (c.args.size - l.i) (omega arith) l.invariant.below)

pub overflow_add-v : goal.overflow_add-v
overflow_add-v c =
    let l = c.loop-i in
    omega (arith, seven_bytes l.v (c.args.size - l.i) (omega arith) l.invariant.below)

pub loop-i-preserved : goal.loop-i-preserved
loop-i-preserved c =
    let s = c.args in
    let l = c.loop-i in
    let b = c.byte_at-b in
    let more : s.size - (l.i - 1) ≡ suc (s.size - l.i) = omega arith in
    record {
      read = number_more s.bytes.now b.result l.v (s.from + (l.i - 1)) (s.from + l.i) (s.size - l.i) (s.size - (l.i - 1)) (omega arith) more b.ensures.0 l.invariant.read;
      below = bound_more b.result l.v (s.size - l.i) (s.size - (l.i - 1)) more b.ensures.1 l.invariant.below;
    }
