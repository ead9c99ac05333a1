use Rattle.std.proofs.Common.{sym, subst}
use mathlib.Core.Path.{fun_ext}
use Rattle.run_model.specs.Up.{up, IsUp}
use Rattle.run_model.proofs.Sweep.{up-equation, up-unique}
use Rattle.run_model.proofs.theorems.up_is_one.Goals as goal

pub returns : goal.returns
returns c m lawful s t = (
  λ meets. fun_ext (up-unique m lawful s t (up m s) meets (up-equation m lawful s)),
  λ same. subst (λ u. IsUp m s u) (sym same) (up-equation m lawful s),
)
