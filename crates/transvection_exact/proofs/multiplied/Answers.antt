-- `multiplied` lays the product of two lots of lent rows, by what `multiply` and `rows_in` ensure.
use mathlib.Core.Path.{sym, ap, ◌∙◌}
use Prim.Native.Nat.{ℕ}
use Rattle.blocks.specs.Words.{rows_in_lem}
use Rattle.blocks.proofs.Products.{matmul_length}
use Rattle.std.specs.Prelude.{Ok}
use Rattle.transvection_exact.specs.Answers.{figures_of_lem}
use Rattle.transvection_exact.proofs.multiplied.Goals as goal

pub returns : goal.returns
returns c =
    let s = c.args in record {
      answered = ap (λ (k : ℕ). figures_of_lem (Ok (record { count = k; looks = s.looks }))) (c.rows_in.ensures ∙ sym (matmul_length (rows_in_lem s.list.now) (rows_in_lem s.basis.now)));
      left = c.multiply.ensures;
    }
