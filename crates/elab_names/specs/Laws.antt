-- Constants in a scope keep their worth.
--     constants_of frames         what each name stands for that is a constant
--     HoldValues frames           each constant has at most 128 bits
--     KeepsWorth                  what is put in is worth what the expression was worth
use Rattle.std.specs.Prelude.{◌≡◌, ◌<◌, ◌≤◌, ◌^◌, ℕ, List, Option, Some, None, Ok}
use Rattle.vlog_tree.specs.declared.expr.Expr.{Expr}
use Rattle.vlog_const.specs.declared.answer.ConstValue.{ConstValue}
use Rattle.vlog_const.specs.Names.{Values, no_values}
use Rattle.vlog_const.specs.Constants.{worth}
use Rattle.elab_names.specs.declared.meaning.Meaning.{Meaning}
use Rattle.elab_names.specs.declared.meaning.Meaning.TheVariants.{Constant, Signal, Other}
use Rattle.elab_names.specs.Meanings.{Frames, found}
use Rattle.elab_names.specs.Expressions.{put_in}

-- the constant that a name means
unfoldable pub constant_of : Option Meaning → Option ConstValue
constant_of None = None
constant_of (Some (Constant v)) = Some v
constant_of (Some (Signal s)) = None
constant_of (Some Other) = None

-- what each name stands for that is a constant
abbrev pub constants_of : Frames → Values
constants_of frames name = constant_of (found frames name)

-- a constant of at most 128 bits
pub record IsValue (v : ConstValue) : Type 0 where
  pub width : v.width ≤ 128
  pub bits : v.bits < 2 ^ v.width

abbrev pub HoldValues : Frames → Type 0
HoldValues frames = (name : List ℕ) (v : ConstValue) → found frames name ≡ Some (Constant v) → IsValue v

-- what is put in is worth, without names, what the expression is worth where names stand for the constants of the scope: its
-- width, its sign, its value in each context, and why it has none
abbrev pub KeepsWorth : Type 0
KeepsWorth = (frames : Frames) (e x : Expr) → HoldValues frames → put_in frames e ≡ Ok x → worth no_values x ≡ worth (constants_of frames) e
