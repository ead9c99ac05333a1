-- How lists of modules begin, and what is answered where lexemes spell one or none.
--     NoneBegins pre rest          no list of modules is spelled by `pre` and then lexemes that begin as `rest` does
--     IsAnswer ls ms               the lexemes spell the list, which is less than 256 deep
--     Refuses, RefusesDepth        what a fault says of the lexeme that it names
--     IsFault end ls fault         the fault's condition stands
--     IsStop ls stop               the same of a lexeme that is named by how many are left from it on
use Rattle.std.specs.Prelude.{◌≡◌, ℕ, ◌<◌, ◌≤◌, false, List, ◌∷◌, ◌++◌, length, Option, Some, None, codes}
use Rattle.std.specs.List.{list_any}
use Rattle.rdc_outside.specs.declared.source.Place.{Place}
use Rattle.vlog_tree.specs.declared.module.Module.{Module}
use Rattle.vlog_tree.specs.Lexemes.{Lexeme, IsWord, is_word}
use Rattle.vlog_tree.specs.Modules.{SpellsModule, SpellsModules}
use Rattle.vlog_tree.specs.Depth.{depth_of_module, depth_of_modules}
use Rattle.vlog_expr.specs.Reading.{first}
use Rattle.vlog_expr.specs.Begins.{Names, named_place}
use Rattle.vlog_expr.specs.declared.stuck.Stuck.{Stuck}
use Rattle.vlog_expr.specs.declared.stuck.Stuck.TheVariants as stuck
use Rattle.vlog_expr.specs.declared.fault.ExprFault.{ExprFault}
use Rattle.vlog_expr.specs.declared.fault.ExprFault.TheVariants as of_expr
use Rattle.vlog_parse.specs.declared.fault.ParseFault.{ParseFault}
use Rattle.vlog_parse.specs.declared.fault.ParseFault.TheVariants.{Memory, Unsupported, Syntax, TooDeep}
use Rattle.vlog_parse.specs.declared.stop.Stop.{Stop}
use Rattle.vlog_parse.specs.declared.stop.Stop.TheVariants as stop

-- one list of lexemes spells at most one list of modules
abbrev pub OneTree : Type 0
OneTree = (ls : List Lexeme) (ms ns : List Module) → SpellsModules ls ms → SpellsModules ls ns → ms ≡ ns

-- no list is spelled by these lexemes and then ones that begin as the rest does; where there is no rest, by these alone
abbrev pub NoneBegins : List Lexeme → List Lexeme → Type 0
NoneBegins pre rest = (vs : List Lexeme) (ms : List Module) → SpellsModules (pre ++ vs) ms → first vs ≡ first rest → ⊥

-- none that is less than 256 deep is
abbrev pub NoShallowBegins : List Lexeme → List Lexeme → Type 0
NoShallowBegins pre rest = (vs : List Lexeme) (ms : List Module) → SpellsModules (pre ++ vs) ms → depth_of_modules ms < 256 → first vs ≡ first rest → ⊥

-- the lexemes spell the list, which is less than 256 deep
pub record IsAnswer (ls : List Lexeme) (ms : List Module) : Type 0 where
  pub spelled : SpellsModules ls ms
  pub shallow : depth_of_modules ms < 256

-- the lexemes from the last word `module` on
pub record SinceModule (pre since : List Lexeme) : Type 0 where
  pub before : List Lexeme
  pub word : Lexeme
  pub inside : List Lexeme
  pub parts : pre ≡ before ++ since
  pub begins : since ≡ word ∷ inside
  pub worded : IsWord (codes "module") word
  pub last : list_any (is_word (codes "module")) inside ≡ false

-- no list begins so, up to the named lexeme
pub record Refuses (end : Place) (ls : List Lexeme) (place : Place) (word : Option (List ℕ)) : Type 0 where
  pub pre : List Lexeme
  pub rest : List Lexeme
  pub names : Names end ls pre rest place word
  pub none : NoneBegins pre rest

-- no shallow one does, and many lexemes stand before it from the last `module` on
pub record RefusesDepth (end : Place) (ls : List Lexeme) (place : Place) : Type 0 where
  pub pre : List Lexeme
  pub rest : List Lexeme
  pub since : List Lexeme
  pub parts : ls ≡ pre ++ rest
  pub place_is : place ≡ named_place end (first rest)
  pub none : NoShallowBegins pre rest
  pub from : SinceModule pre since
  pub many : 254 ≤ length since

-- the fault's condition stands; want of memory has none
abbrev pub IsFault : Place → List Lexeme → ParseFault → Type 0
IsFault end ls Memory = Unit {0}
IsFault end ls (Unsupported word place) = Refuses end ls place (Some word)
IsFault end ls (Syntax place) = Refuses end ls place None
IsFault end ls (TooDeep place) = RefusesDepth end ls place

-- the fault that names the same lexeme
unfoldable pub same_fault : ExprFault → ParseFault
same_fault of_expr.Memory = Memory
same_fault (of_expr.Unsupported word place) = Unsupported word place
same_fault (of_expr.Syntax place) = Syntax place
same_fault (of_expr.TooDeep place) = TooDeep place

-- a module that so many lexemes spell, in front
pub record IsFront (ls : List Lexeme) (m : Module) (count : ℕ) : Type 0 where
  pub pre : List Lexeme
  pub rest : List Lexeme
  pub parts : ls ≡ pre ++ rest
  pub counted : count ≡ length pre
  pub spelled : SpellsModule pre m
  pub shallow : depth_of_module m < 256

-- modules that are spelled by what stands before
pub record IsBehind (ls : List Lexeme) (ms : List Module) (rest : List Lexeme) : Type 0 where
  pub pre : List Lexeme
  pub parts : ls ≡ pre ++ rest
  pub spelled : SpellsModules pre ms
  pub shallow : depth_of_modules ms < 256

-- no list begins so, up to the lexeme from which on so many are left
pub record StopsWrong (ls : List Lexeme) (left : ℕ) : Type 0 where
  pub pre : List Lexeme
  pub rest : List Lexeme
  pub parts : ls ≡ pre ++ rest
  pub counted : left ≡ length rest
  pub none : NoneBegins pre rest

-- no shallow one does
pub record StopsDeep (ls : List Lexeme) (left : ℕ) : Type 0 where
  pub pre : List Lexeme
  pub rest : List Lexeme
  pub since : List Lexeme
  pub parts : ls ≡ pre ++ rest
  pub counted : left ≡ length rest
  pub none : NoShallowBegins pre rest
  pub from : SinceModule pre since
  pub many : 254 ≤ length since

abbrev pub IsStop : List Lexeme → Stop → Type 0
IsStop ls stop.Memory = Unit {0}
IsStop ls (stop.Wrong left) = StopsWrong ls left
IsStop ls (stop.Deep left) = StopsDeep ls left

-- why a reading stops, so many lexemes before the end
unfoldable pub stop_of : Stuck → ℕ → Stop
stop_of stuck.Memory left = stop.Memory
stop_of stuck.Wrong left = stop.Wrong left
stop_of stuck.Deep left = stop.Deep left
