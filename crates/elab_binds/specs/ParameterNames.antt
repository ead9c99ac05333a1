-- The parameters of a module that can be given, by name and in order: those of its head, and then those of its body.
--     names_of_item i                those of an item; a local one can't be given, and a generate construct is a scope of its own
--     parameter_names ps is          those of a module
use Rattle.std.specs.Prelude.{ℕ, List, [], ◌++◌, map}
use Rattle.std.specs.List.{flat_map}
use Rattle.vlog_tree.specs.declared.item.Binding.{Binding}
use Rattle.vlog_tree.specs.declared.item.Item.{Item, fold-Item}
use Rattle.vlog_tree.specs.declared.item.Item.TheOpen.{Item-F}
use Rattle.vlog_tree.specs.declared.module.Parameter.{Parameter}

-- the name of a parameter
abbrev pub name_of : Binding → List ℕ
name_of b = b.name.name

unfoldable pub names_by_parts : Item-F (List (List ℕ)) → List (List ℕ)
names_by_parts (Item-F.Parameters place shape bindings) = map name_of bindings
names_by_parts (Item-F.Generate place items) = flat_map (λ names. names) items
names_by_parts _ = []

-- those of an item
unfoldable pub names_of_item : Item → List (List ℕ)
names_of_item = fold-Item (List (List ℕ)) names_by_parts

abbrev pub name_of_parameter : Parameter → List ℕ
name_of_parameter p = p.binding.name.name

-- those of a module
abbrev pub parameter_names : List Parameter → List Item → List (List ℕ)
parameter_names ps items = map name_of_parameter ps ++ flat_map names_of_item items
