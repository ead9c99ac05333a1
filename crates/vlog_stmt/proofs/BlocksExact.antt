-- The reader of blocks is exact.
--     BlockC room place               what a block is: a label, and statements no deeper than the room
--     block_to, block_from            it is a statement, and a statement that is a block is so
use Rattle.std.proofs.Common.{◌≡◌, ℕ, suc, ◌≤◌, false, List, [], ◌∷◌, ◌++◌, Option, refl, sym, ap, ◌∙◌, arith}
use Rattle.std.specs.Prelude.{codes}
use Rattle.rdc_outside.specs.declared.source.Place.{Place}
use Rattle.vlog_tree.specs.declared.ident.Ident.{Ident}
use Rattle.vlog_tree.specs.declared.stmt.Stmt.{Stmt}
use Rattle.vlog_tree.specs.declared.stmt.Stmt.TheVariants as s
use Rattle.vlog_tree.specs.Lexemes.{Lexeme, IsWord, start}
use Rattle.vlog_tree.specs.Lists.{SpellsOptional, SpellsLabel}
use Rattle.vlog_tree.specs.Statements.{SpellsStmts}
use Rattle.vlog_tree.specs.Statements as g
use Rattle.vlog_tree.specs.Depth.{depth_of_stmt}
use Rattle.vlog_expr.specs.Reading.{Reader, place_if}
use Rattle.vlog_stmt.specs.Lists.{Eats}
use Rattle.vlog_stmt.specs.Statements.{before, block}
use Rattle.vlog_stmt.proofs.StmtDepths.{depth-Block}
use Rattle.vlog_stmt.proofs.Exact.{Spelling, front, Exact, Nothing, Behind, Row, exact_pure, exact_word, ◌>>=◌}
use Rattle.vlog_stmt.proofs.ManyExact.{Many, exact_many}
use Rattle.vlog_stmt.proofs.PiecesExact.{Label, exact_label}
use Rattle.vlog_stmt.proofs.ArmsExact.{Opens, placed_at}
use Rattle.vlog_stmt.proofs.StmtForms.{stmts_read, stmts_colon, stmts_from}

-- "begin" [ ":" id ] { stmt } "end"
unfoldable pub BlockC : ℕ → Place → Spelling Stmt
BlockC room place = Behind (IsWord (codes "begin")) (Row (Label room) (λ name. Row (Many (Opens room) (before (codes "end"))) (λ ss. Behind (IsWord (codes "end")) (Nothing (s.Block place name ss)))))

pub exact_block : (room : ℕ) (inner : Reader Stmt) → Exact inner (Opens room) → Eats inner → (place : Place) → Exact (block room inner place) (BlockC room place)
unfolding block BlockC
exact_block room inner each eats place =
    let built = exact_word (codes "begin") (exact_label room >>= (λ name. exact_many (Opens room) (before (codes "end")) inner each eats >>= (λ ss. exact_word (codes "end") (exact_pure (s.Block place name ss))))) in built

pub block_to : (room : ℕ) (us : List Lexeme) (x : Stmt) (next : Option Lexeme) → BlockC room (place_if (front us next)) us x next → Opens (suc room) us x next
unfolding BlockC
block_to room us x next b =
    let row = b.spelled in let many = row.two in let last = many.two in let n = last.spelled in let name = row.one in
    let t = stmts_read room (before (codes "end")) many.left many.mid (front many.right next) many.one in
    let all : x ≡ s.Block (start us) row.mid many.mid = n.same ∙ ap (λ z. s.Block z row.mid many.mid) (placed_at us [] b.lexeme b.others next b.parts) in
    let d = ap depth_of_stmt all ∙ depth-Block (start us) row.mid many.mid in let low = t.shallow in let lower = name.shallow in
    record {
      open_if = false;
      spelled = g.block b.lexeme last.lexeme row.left many.left row.mid many.mid b.is name.spelled t.spelled last.is refl (rw (b.parts, row.parts, many.parts, last.parts, n.none) refl) all;
      shallow = omega arith;
      closed = λ o. cc;
    }

pub block_from : (room : ℕ) (us : List Lexeme) (x : Stmt) (next : Option Lexeme) (begin end : Lexeme) (ns is : List Lexeme) (name : Option Ident) (ss : List Stmt)
    → IsWord (codes "begin") begin → SpellsOptional SpellsLabel ns name → SpellsStmts is ss → IsWord (codes "end") end → us ≡ begin ∷ (ns ++ (is ++ end ∷ [])) → x ≡ s.Block (start us) name ss → depth_of_stmt x ≤ suc room → BlockC room (place_if (front us next)) us x next
unfolding BlockC
block_from room us x next begin end ns is name ss w named inside last parts same low =
    let d = ap depth_of_stmt same ∙ depth-Block (start us) name ss in
    record {
      lexeme = begin;
      others = ns ++ (is ++ end ∷ []);
      is = w;
      parts = parts;
      spelled = record {
        left = ns;
        right = is ++ end ∷ [];
        mid = name;
        parts = refl;
        one = record { spelled = named; shallow = omega arith; ended = λ none. stmts_colon is [] ss end next last inside };
        two = record {
          left = is;
          right = end ∷ [];
          mid = ss;
          parts = refl;
          one = stmts_from room is ss end last inside (omega arith);
          two = record { lexeme = end; others = []; is = last; parts = refl; spelled = record { none = refl; same = same ∙ ap (λ z. s.Block z name ss) (sym (placed_at us [] begin (ns ++ (is ++ end ∷ [])) next parts)) } };
        };
      };
    }
