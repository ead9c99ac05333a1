-- Copies, and the names that they lead to. A copy is a driver whose value is a plain name, in brackets or not.
--     copied e                the name that an expression is, in brackets or not
--     copies xs               the copies among drivers
--     led ts ss name          the source where the name stands among the targets, or else the name itself
--     walk cs n name          the name that n copies lead to, as far as there are copies
--     root cs name            the name that all copies lead to: more steps than a design has drivers
use Rattle.std.specs.Prelude.{ℕ, zero, suc, List, [], ◌∷◌, ◌++◌, map, slice_get, Option, Some, None}
use Rattle.std.specs.Option.{option_map, option_and_then, option_to_list, unwrap_or}
use Rattle.vlog_tree.specs.declared.expr.Expr.{Expr, fold-Expr, out-Expr}
use Rattle.vlog_tree.specs.declared.expr.Expr.TheOpen.{Expr-F}
use Rattle.design_form.specs.declared.parts.Driver.{Driver}
use Rattle.design_form.specs.Numbers.{index_of}

-- TARGET is what SOURCE is
pub record Copy : Type 0 where
  pub target : List ℕ
  pub source : List ℕ

unfoldable pub name_in : Expr-F Expr → Option (List ℕ)
name_in (Expr-F.Name place name) = Some name
name_in e = None

-- a name
unfoldable pub name_of : Expr → Option (List ℕ)
name_of e = name_in (out-Expr e)

-- by its parts, each beside the name that it is
unfoldable pub copied_by_parts : Expr-F (Option (List ℕ)) → Option (List ℕ)
copied_by_parts (Expr-F.Name place name) = Some name
copied_by_parts (Expr-F.Brackets place inner) = inner
copied_by_parts e = None

-- a name, in brackets or not
unfoldable pub copied : Expr → Option (List ℕ)
copied = fold-Expr (Option (List ℕ)) copied_by_parts

unfoldable pub copy_to : List ℕ → Option (List ℕ) → List Copy
copy_to target None = []
copy_to target (Some source) = record { target = target; source = source } ∷ []

unfoldable pub copy_if : Option (List ℕ) → Option (List ℕ) → List Copy
copy_if None source = []
copy_if (Some target) source = copy_to target source

-- a driver that is a copy
unfoldable pub copy_in : Driver → List Copy
copy_in x = copy_if (name_of x.target) (copied x.value)

-- the copies among drivers
unfoldable pub copies : List Driver → List Copy
copies [] = []
copies (x ∷ xs) = copy_in x ++ copies xs

abbrev pub targets : List Copy → List (List ℕ)
targets cs = map (λ c. c.target) cs

abbrev pub sources : List Copy → List (List ℕ)
sources cs = map (λ c. c.source) cs

-- what stands at a place, or else the name itself
unfoldable pub at_place : List (List ℕ) → List ℕ → Option ℕ → List ℕ
at_place ends name None = name
at_place ends name (Some k) = unwrap_or (slice_get ends k) name

-- the end where the name stands among the targets, or else the name itself
abbrev pub led : List (List ℕ) → List (List ℕ) → List ℕ → List ℕ
led ts ends name = at_place ends name (index_of ts name)

-- one step: the source of the first copy to the name
abbrev pub step : List Copy → List ℕ → List ℕ
step cs name = led (targets cs) (sources cs) name

-- n steps
unfoldable pub walk : List Copy → ℕ → List ℕ → List ℕ
walk cs zero name = name
walk cs (suc n) name = walk cs n (step cs name)

-- more steps than a design has drivers: each driver weighs at least one, and all together less than this
unfoldable pub most_steps : ℕ
most_steps = 1048576

-- the name that all copies lead to
unfoldable pub root : List Copy → List ℕ → List ℕ
root cs name = walk cs most_steps name
