-- What the name of a module means: a module of the text, a box, or no one of them, since two have it.
--     Book, no_books, with_listed t name l       what each name means, and the same with one more
--     modules_from t k ms, boxes_from t k bs     after modules and boxes, which stand at k and behind
--     library ms bs                              after all: of two boxes of one name the first counts
--     found_in t name place                      what a name means where it is instantiated
--     IsWithin m n f                             a module of m, or a box of n
use Rattle.std.specs.Prelude.{ℕ, suc, ◌<◌, if◌then◌else◌, List, [], ◌∷◌, Option, Some, None, Ok, Err}
use Rattle.std.specs.Str.{bytes_eq}
use Rattle.std.specs.HashMap as hash
use Rattle.rdc_outside.specs.declared.source.Place.{Place}
use Rattle.vlog_tree.specs.declared.module.Module.{Module}
use Rattle.elab_names.specs.declared.fault.ElabFault.TheVariants.{NoModule, TwoModules}
use Rattle.elab_names.specs.Answers.{Or_fault}
use Rattle.elab_binds.specs.declared.boxes.BoxPorts.{BoxPorts}
use Rattle.elab_binds.specs.declared.index.Found.{Found}
use Rattle.elab_binds.specs.declared.index.Found.TheVariants as found
use Rattle.elab_binds.specs.declared.index.Listed.{Listed}
use Rattle.elab_binds.specs.declared.index.Listed.TheVariants.{Once, Twice}
use Rattle.elab_binds.specs.declared.index.Index.{Index}

-- what each name means
abbrev pub Book : Type 0
Book = List ℕ → Option Listed

abbrev pub no_books : Book
no_books name = None

-- the same, but for one name
abbrev pub with_listed : Book → List ℕ → Listed → Book
with_listed t name l = λ other. if bytes_eq name other then Some l else t other

-- what a name means with a module at k, behind what it meant
unfoldable pub with_module : Option Listed → ℕ → Listed
with_module None k = Once (found.Module k)
with_module (Some l) k = Twice

-- and with a box at k
unfoldable pub with_box : Option Listed → ℕ → Listed
with_box None k = Once (found.Box k)
with_box (Some (Once (found.Box j))) k = Once (found.Box j)
with_box (Some (Once (found.Module j))) k = Twice
with_box (Some Twice) k = Twice

abbrev pub module_entered : Book → ℕ → List ℕ → Book
module_entered t k name = with_listed t name (with_module (t name) k)

abbrev pub box_entered : Book → ℕ → List ℕ → Book
box_entered t k name = with_listed t name (with_box (t name) k)

-- after modules, the first of which stands at k
unfoldable pub modules_from : Book → ℕ → List Module → Book
modules_from t k [] = t
modules_from t k (m ∷ ms) = modules_from (module_entered t k m.name.name) (suc k) ms

-- after boxes
unfoldable pub boxes_from : Book → ℕ → List BoxPorts → Book
boxes_from t k [] = t
boxes_from t k (b ∷ bs) = boxes_from (box_entered t k b.module) (suc k) bs

-- after all
abbrev pub library : List Module → List BoxPorts → Book
library ms bs = boxes_from (modules_from no_books 0 ms) 0 bs

-- what a name means where it is instantiated
unfoldable pub found_as : List ℕ → Place → Option Listed → Or_fault Found
found_as name place None = Err (NoModule name (Some place))
found_as name place (Some Twice) = Err (TwoModules name place)
found_as name place (Some (Once f)) = Ok f

abbrev pub found_in : Book → List ℕ → Place → Or_fault Found
found_in t name place = found_as name place (t name)

-- a module of m, or a box of n
abbrev pub IsWithin : ℕ → ℕ → Found → Type 0
IsWithin m n (found.Module k) = k < m
IsWithin m n (found.Box k) = k < n

-- what a table holds
abbrev pub book_of : Index → Book
book_of t = λ name. hash.get_by (λ key. bytes_eq name key.items) t.table
