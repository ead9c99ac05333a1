-- Which source a further declaration may give a role.
use Rattle.std.specs.Prelude.{◌≡◌, ℕ, ◌<◌, List, length}
use Rattle.thin_form.specs.Design.{Input, Design, name_at, kind_at}
use Rattle.thin_cons.specs.Roles.{role_at}
use Rattle.thin_cons.specs.declared.role.Role.{Role}
use Rattle.thin_cons.specs.declared.role.Role.TheVariants.{Free}

-- source n is the input port of that name, and has no role yet
pub record IsFreeInput (design : Design) (list : List Role) (port : List ℕ) (n : ℕ) : Type 0 where
  pub within : n < length design.sources
  pub name : name_at design n ≡ port
  pub input : kind_at design n ≡ Input
  pub free : role_at list n ≡ Free
