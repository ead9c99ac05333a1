-- Generate blocks, which are scopes, and what goes into the printed names in them.
--     block_prefix, turn_prefix      the names of what stands in a named block, and in a turn of a loop
--     labelled p i                   the name of a block, in the scope around it
--     genvar around i                a name that is a genvar
--     begun, ended                   into a scope, and out of it
use Rattle.std.specs.Prelude.{ℕ, Bool, true, false, if◌then◌else◌, List, [], ◌∷◌, ◌++◌, drop, Option, Some, None, Ok, Err, codes}
use Rattle.std.specs.Option.{is_some, option_or}
use Rattle.std.specs.Fmt.{decimal}
use Rattle.vlog_tree.specs.declared.ident.Ident.{Ident}
use Rattle.vlog_tree.specs.declared.item.Item.{Item}
use Rattle.vlog_const.specs.declared.answer.ConstValue.{ConstValue}
use Rattle.vlog_const.specs.declared.whole.Whole.{Whole}
use Rattle.vlog_const.specs.Selects.{whole}
use Rattle.elab_decls.specs.declared.entry.Entry.{Entry}
use Rattle.elab_decls.specs.declared.entry.Form.{Form}
use Rattle.elab_decls.specs.declared.entry.Form.TheVariants.{Genvar}
use Rattle.elab_names.specs.declared.fault.ElabFault.TheVariants.{Undeclared, TwiceDeclared}
use Rattle.elab_names.specs.declared.meaning.Meaning.TheVariants.{Other}
use Rattle.elab_names.specs.Answers.{Or_fault, ◌>>=◌}
use Rattle.elab_names.specs.Meanings.{innermost, declared, left}
use Rattle.elab_scopes.specs.Parameters.{none_given}
use Rattle.elab_scopes.specs.Signals.{Entries}
use Rattle.elab_scopes.specs.Openings.{opened}
use Rattle.elab_items.specs.Plans.{Plan, frames_in, with_around, with_drawn, with_frames}

-- a number with its sign, as it is printed
unfoldable pub numeral : Whole → List ℕ
numeral n = if n.negative then codes "-" ++ decimal n.magnitude else decimal n.magnitude

-- what stands in a block that has a name; one that has none adds nothing
unfoldable pub block_prefix : List ℕ → Option Ident → List ℕ
block_prefix prefix None = prefix
block_prefix prefix (Some i) = prefix ++ (i.name ++ codes ".")

-- what stands in a turn of a loop
unfoldable pub turn_prefix : List ℕ → List ℕ → ConstValue → List ℕ
turn_prefix prefix label v = prefix ++ (label ++ (codes "[" ++ (numeral (whole v) ++ codes "].")))

-- the name of a block, in the scope around it
unfoldable pub labelled_as : Plan → Ident → Or_fault Plan
labelled_as p i =
    if is_some (innermost (frames_in p) i.name) then Err (TwiceDeclared i.name i.place)
    else Ok (with_frames p (declared (frames_in p) i.name Other))

unfoldable pub labelled : Plan → Option Ident → Or_fault Plan
labelled p None = Ok p
labelled p (Some i) = labelled_as p i

-- what the first scope that declares a name says of it
unfoldable pub entry_in : List Entries → List ℕ → Option Entry
entry_in [] name = None
entry_in (at ∷ outer) name = option_or (at name) (entry_in outer name)

-- whether that is a genvar
unfoldable pub is_form : Option Form → Bool
is_form (Some Genvar) = true
is_form _ = false

unfoldable pub is_genvar : Option Entry → Bool
is_genvar None = false
is_genvar (Some e) = is_form e.form

-- a name that is one
unfoldable pub genvar : List Entries → Ident → Or_fault (Unit {0})
genvar around i = if is_genvar (entry_in around i.name) then Ok tt else Err (Undeclared i.name i.place)

-- into a scope of these items
unfoldable pub begun : List ℕ → List Item → Plan → Or_fault Plan
begun prefix items p = do
  o ← opened prefix none_given [] [] items p.draft.drawn
  Ok (with_around (with_drawn p o.drawn) (o.table.at ∷ p.around))

-- and out of it
unfoldable pub ended : Plan → Plan
ended p = with_around (with_frames p (left (frames_in p))) (drop 1 p.around)
