-- Parameters, in the order of the text. One with a range takes its value as by an assignment to that many bits; one without
-- keeps the width of its value, and `signed` makes it signed.
--     Given, none_given               the values that an instance gives to parameters, by name
--     valued frames s e               the value of a parameter of that shape, of an expression that is put in
--     source, given_value             the expression that a parameter takes, and its value
--     entered frames s given b        the names after one more parameter
--     parameters_of_item, parameters_of_head, parameters     after those of an item, of a module's head, of a scope
use Rattle.std.specs.Prelude.{ℕ, Bool, ◌||◌, nat_lt, if◌then◌else◌, List, Option, Some, None, Ok, Err}
use Rattle.rdc_outside.specs.declared.source.Place.{Place}
use Rattle.vlog_tree.specs.declared.expr.Expr.{Expr}
use Rattle.vlog_tree.specs.declared.port.Range.{Range}
use Rattle.vlog_tree.specs.declared.port.Shape.{Shape}
use Rattle.vlog_tree.specs.declared.item.Binding.{Binding}
use Rattle.vlog_tree.specs.declared.item.Item.{Item, fold-Item}
use Rattle.vlog_tree.specs.declared.item.Item.TheOpen.{Item-F}
use Rattle.vlog_tree.specs.declared.module.Parameter.{Parameter}
use Rattle.vlog_const.specs.declared.answer.ConstValue.{ConstValue}
use Rattle.vlog_const.specs.declared.answer.ConstFault.TheVariants.{TooWide}
use Rattle.vlog_const.specs.Names.{no_values}
use Rattle.vlog_const.specs.Words.{low}
use Rattle.vlog_const.specs.Constants.{value_of, value_within}
use Rattle.design_form.specs.declared.signal.Bounds.{Bounds}
use Rattle.design_form.specs.Signals.{width_of}
use Rattle.elab_names.specs.declared.fault.ElabFault.TheVariants.{Const}
use Rattle.elab_names.specs.declared.meaning.Meaning.TheVariants.{Constant}
use Rattle.elab_names.specs.Answers.{Or_fault, ◌>>=◌, lifted}
use Rattle.elab_names.specs.Meanings.{Frames, declared}
use Rattle.elab_names.specs.Expressions.{put_in}
use Rattle.elab_scopes.specs.Threads.{threaded, chained}
use Rattle.elab_scopes.specs.Ranges.{place_of, bounds}

-- the values that an instance gives to parameters, by name; their expressions are put in where the instance stands
abbrev pub Given : Type 0
Given = List ℕ → Option Expr

abbrev pub none_given : Given
none_given name = None

-- the width of a parameter's range, of at most 128 bits
unfoldable pub width_in : Place → Bounds → Or_fault ℕ
width_in place b = if nat_lt 128 (width_of b) then Err (Const (TooWide place)) else Ok (width_of b)

-- the lowest bits of a value
abbrev pub cut : ℕ → Bool → ConstValue → ConstValue
cut w signed v = record { bits = low w v.bits; width = w; signed = signed }

-- the value of a parameter of that range
unfoldable pub valued_as : Frames → Bool → Option Range → Expr → Or_fault ConstValue
valued_as frames signed None e = do
  v ← lifted (value_of no_values e)
  Ok (record { bits = v.bits; width = v.width; signed = signed || v.signed })
valued_as frames signed (Some r) e = do
  b ← bounds frames r
  w ← width_in (place_of r.msb) b
  v ← lifted (value_within no_values w e)
  Ok (cut w signed v)

abbrev pub valued : Frames → Shape → Expr → Or_fault ConstValue
valued frames s e = valued_as frames s.signed s.range e

-- the expression that a parameter takes: what is given, or else its own
unfoldable pub source : Frames → Option Expr → Expr → Or_fault Expr
source frames (Some e) own = Ok e
source frames None own = put_in frames own

-- the value of a parameter
unfoldable pub given_value : Frames → Shape → Given → Binding → Or_fault ConstValue
given_value frames s given b = do
  e ← source frames (given b.name.name) b.value
  valued frames s e

-- the names after one more parameter
unfoldable pub entered : Shape → Given → Frames → Binding → Or_fault Frames
entered s given frames b = do
  v ← given_value frames s given b
  Ok (declared frames b.name.name (Constant v))

-- after those of an item; a local one takes no other value, and other generate constructs are scopes of their own
unfoldable pub item_by_parts : Given → Item-F (Frames → Or_fault Frames) → Frames → Or_fault Frames
item_by_parts given (Item-F.Parameters place s bs) frames = threaded (entered s given) frames bs
item_by_parts given (Item-F.Constants place s bs) frames = threaded (entered s none_given) frames bs
item_by_parts given (Item-F.Generate place items) frames = chained items frames
item_by_parts given _ frames = Ok frames

unfoldable pub parameters_of_item : Given → Frames → Item → Or_fault Frames
parameters_of_item given frames i = fold-Item (Frames → Or_fault Frames) (item_by_parts given) i frames

-- after those of a module's head
unfoldable pub headed : Given → Frames → Parameter → Or_fault Frames
headed given frames p = entered p.shape given frames p.binding

-- after those of a scope; a generate block has no head, and nothing is given to it
unfoldable pub parameters : Given → Frames → List Parameter → List Item → Or_fault Frames
parameters given frames ps items = do
  after ← threaded (headed given) frames ps
  threaded (parameters_of_item given) after items
