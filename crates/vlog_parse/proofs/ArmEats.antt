-- A case item takes lexemes.
use Rattle.std.proofs.Common.{◌≡◌, ℕ, ◌<◌, Bool, true, false, List, length, Ok, ap}
use Rattle.vlog_tree.specs.declared.stmt.Arm.{Arm}
use Rattle.vlog_tree.specs.declared.item.Block.{Block}
use Rattle.vlog_tree.specs.declared.item.Item.{Item}
use Rattle.vlog_tree.specs.Lexemes.{Lexeme}
use Rattle.vlog_parse.specs.Items.{item}
use Rattle.vlog_parse.proofs.ArmLoop.{one_arm}
use Rattle.vlog_parse.proofs.EatsLemmas.{eats_default, eats_labelled}

pub one_eats : (room : ℕ) (other may : Bool) (ls : List Lexeme) (a : Arm (Block (List Item))) (rest : List Lexeme) → one_arm room (item room) other may ls ≡ (Ok a, rest) → length rest < length ls
one_eats room true true ls a rest h = (eats_default room).leaves ls a rest h
one_eats room true false ls a rest h = let never = ap (λ o. o.0) h in cc
one_eats room false may ls a rest h = (eats_labelled room).leaves ls a rest h
