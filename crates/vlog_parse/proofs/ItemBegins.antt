-- What an item begins with.
use Rattle.std.proofs.Common.{◌≡◌, ℕ, Bool, true, false, List, [], ◌∷◌, ◌++◌, Option, Some, refl, sym, ap, ◌∙◌, subst}
use Rattle.std.specs.Prelude.{codes}
use Rattle.std.specs.Str.{bytes_eq}
use Rattle.vlog_lex.specs.declared.tokens.Kind.{Kind}
use Rattle.vlog_lex.specs.declared.tokens.Kind.TheVariants.{Identifier, Number, Str, Mark}
use Rattle.vlog_tree.specs.declared.ident.Ident.{Ident}
use Rattle.vlog_tree.specs.declared.port.Direction.{Direction}
use Rattle.vlog_tree.specs.declared.item.GateKind.{GateKind}
use Rattle.vlog_tree.specs.declared.item.GateKind.TheVariants as kind
use Rattle.vlog_tree.specs.declared.item.Item.{Item}
use Rattle.vlog_tree.specs.Lexemes.{Lexeme, mark_in, word_of, word_in, is_mark, is_word, IsWord}
use Rattle.vlog_tree.specs.Names.{IsIdent, name_of, name_in}
use Rattle.vlog_tree.specs.Reserved.{is_reserved, reserved_with}
use Rattle.vlog_tree.specs.Declarations as g
use Rattle.vlog_tree.specs.Declarations.{SpellsDirection, SpellsDeclaration, IsGate}
use Rattle.vlog_tree.specs.Items as t
use Rattle.vlog_tree.specs.Items.{SpellsItem}
use Rattle.vlog_expr.specs.Reading.{word_if, sees, sees_word}
use Rattle.vlog_parse.specs.declared.heads.Head.TheVariants as head
use Rattle.vlog_parse.specs.Parts.{is_name}
use Rattle.vlog_parse.specs.Items.{is_nothing, head_in, head_of, declaration_in, construct_in, gate_in, word_of_gate}
use Rattle.vlog_parse.proofs.Exact.{front}
use Rattle.vlog_parse.proofs.Looks.{worded}

pub word_head : (w : List ℕ) (l : Lexeme) → IsWord w l → head_of (Some l) ≡ head_in w
unfolding head_of word_if
word_head w l is = ap head_in (worded w l is)

name_head : (word name : List ℕ) → name_in word ≡ Some name → head_in word ≡ head.Instances
unfolding head_in is_name
name_head word name is = rw is refl

pub ident_head : (l : Lexeme) (x : Ident) → IsIdent l x → head_of (Some l) ≡ head.Instances
unfolding head_of word_if name_of
ident_head l x is = name_head (word_of l) x.name is.name

-- an item begins with the lexeme
pub record Begin (us : List Lexeme) : Type 0 where
  pub lexeme : Lexeme
  pub others : List Lexeme
  pub is : us ≡ lexeme ∷ others
  pub head : is_nothing (head_of (Some lexeme)) ≡ false

by_word : (w : List ℕ) (l : Lexeme) (us ls : List Lexeme) → us ≡ l ∷ ls → IsWord w l → is_nothing (head_in w) ≡ false → Begin us
by_word w l us ls parts is some = record { lexeme = l; others = ls; is = parts; head = ap is_nothing (word_head w l is) ∙ some }

pub gate_worded : (l : Lexeme) (which : GateKind) → IsGate l which → IsWord (word_of_gate which) l
unfolding word_of_gate
gate_worded l which (g.and is same) = subst (λ k. IsWord (word_of_gate k) l) (sym same) is
gate_worded l which (g.nand is same) = subst (λ k. IsWord (word_of_gate k) l) (sym same) is
gate_worded l which (g.or is same) = subst (λ k. IsWord (word_of_gate k) l) (sym same) is
gate_worded l which (g.nor is same) = subst (λ k. IsWord (word_of_gate k) l) (sym same) is
gate_worded l which (g.xor is same) = subst (λ k. IsWord (word_of_gate k) l) (sym same) is
gate_worded l which (g.xnor is same) = subst (λ k. IsWord (word_of_gate k) l) (sym same) is
gate_worded l which (g.not is same) = subst (λ k. IsWord (word_of_gate k) l) (sym same) is
gate_worded l which (g.buf is same) = subst (λ k. IsWord (word_of_gate k) l) (sym same) is

pub gate_head : (which : GateKind) → head_in (word_of_gate which) ≡ head.Gates which
unfolding word_of_gate head_in declaration_in construct_in gate_in is_name name_in is_reserved reserved_with
gate_head kind.And = refl
gate_head kind.Nand = refl
gate_head kind.Or = refl
gate_head kind.Nor = refl
gate_head kind.Xor = refl
gate_head kind.Xnor = refl
gate_head kind.Not = refl
gate_head kind.Buf = refl

pub record Directed (us : List Lexeme) : Type 0 where
  pub lexeme : Lexeme
  pub others : List Lexeme
  pub is : us ≡ lexeme ∷ others
  pub head : head_of (Some lexeme) ≡ head.Ports

pub directed : (us : List Lexeme) (d : Direction) → SpellsDirection us d → Directed us
unfolding head_in declaration_in is_name name_in is_reserved reserved_with
directed us d (g.input l is parts same) = record { lexeme = l; others = []; is = parts; head = word_head (codes "input") l is }
directed us d (g.input_wire l m is wired parts same) = record { lexeme = l; others = m ∷ []; is = parts; head = word_head (codes "input") l is }
directed us d (g.output l is parts same) = record { lexeme = l; others = []; is = parts; head = word_head (codes "output") l is }
directed us d (g.output_wire l m is wired parts same) = record { lexeme = l; others = m ∷ []; is = parts; head = word_head (codes "output") l is }
directed us d (g.output_reg l m is held parts same) = record { lexeme = l; others = m ∷ []; is = parts; head = word_head (codes "output") l is }

declaration_begins : (us : List Lexeme) (x : Item) → SpellsDeclaration us x → Begin us
unfolding head_in declaration_in construct_in gate_in is_name name_in is_reserved reserved_with
declaration_begins us x (g.ports semi ds ss ns d shape names p q r ends parts is) =
    let s = directed ds d p in record { lexeme = s.lexeme; others = s.others ++ (ss ++ (ns ++ semi ∷ [])); is = parts ∙ ap (λ z. z ++ (ss ++ (ns ++ semi ∷ []))) s.is; head = ap is_nothing s.head }
declaration_begins us x (g.wires word semi ss ns shape nets w p q ends parts is) = by_word (codes "wire") word us (ss ++ (ns ++ semi ∷ [])) parts w refl
declaration_begins us x (g.registers word semi ss ns shape nets w p q ends parts is) = by_word (codes "reg") word us (ss ++ (ns ++ semi ∷ [])) parts w refl
declaration_begins us x (g.integers word semi ns names w p ends parts is) = by_word (codes "integer") word us (ns ++ semi ∷ []) parts w refl
declaration_begins us x (g.genvars word semi ns names w p ends parts is) = by_word (codes "genvar") word us (ns ++ semi ∷ []) parts w refl
declaration_begins us x (g.parameters word semi ss ns shape nets w p q ends parts is) = by_word (codes "parameter") word us (ss ++ (ns ++ semi ∷ [])) parts w refl
declaration_begins us x (g.constants word semi ss ns shape nets w p q ends parts is) = by_word (codes "localparam") word us (ss ++ (ns ++ semi ∷ [])) parts w refl
declaration_begins us x (g.assign word semi ns names w p ends parts is) = by_word (codes "assign") word us (ns ++ semi ∷ []) parts w refl
declaration_begins us x (g.gates word semi ns which gates w p ends parts is) = by_word (word_of_gate which) word us (ns ++ semi ∷ []) parts (gate_worded word which w) (ap is_nothing (gate_head which))
declaration_begins us x (g.instances word semi ps is called passed found w p q ends parts x-is) =
    record { lexeme = word; others = ps ++ (is ++ semi ∷ []); is = parts; head = ap is_nothing (ident_head word called w) }

pub item_begins : {open_if : Bool} (us : List Lexeme) (x : Item) → SpellsItem open_if us x → Begin us
unfolding head_in declaration_in construct_in gate_in is_name name_in is_reserved reserved_with
item_begins us x (t.declaration d o) = declaration_begins us x d
item_begins us x (t.always word at cs ss c s w p q r parts is) = by_word (codes "always") word us (at ∷ (cs ++ ss)) parts w refl
item_begins us x (t.generate word end is items w p q o parts x-is) = by_word (codes "generate") word us (is ++ end ∷ []) parts w refl
item_begins us x (t.loop word begin end hs ns is header label items w p q r s u o parts x-is) = by_word (codes "for") word us (hs ++ begin ∷ (ns ++ (is ++ end ∷ []))) parts w refl
item_begins us x (t.if_alone word left right cs is inner test chosen w p q r s o parts x-is) = by_word (codes "if") word us (left ∷ (cs ++ right ∷ is)) parts w refl
item_begins us x (t.if_else word left right otherwise cs is js test chosen rest w p q r s u v parts x-is) = by_word (codes "if") word us (left ∷ (cs ++ right ∷ (is ++ otherwise ∷ js))) parts w refl
item_begins us x (t.cases word left right end cs is has selector arms w p q r s u o parts x-is) = by_word (codes "case") word us (left ∷ (cs ++ right ∷ (is ++ end ∷ []))) parts w refl

no_word_by : (w : List ℕ) (l : Lexeme) → is_nothing (head_of (Some l)) ≡ false → is_nothing (head_in w) ≡ true → (b : Bool) → is_word w l ≡ b → b ≡ false
no_word_by w l some none false is = refl
no_word_by w l some none true is = let same = ap is_nothing (word_head w l is) in cc

-- no item begins with such a word, and none with a mark
pub begin_no_word : (w : List ℕ) {us : List Lexeme} (next : Option Lexeme) → Begin us → is_nothing (head_in w) ≡ true → sees_word w (front us next) ≡ false
unfolding sees_word
begin_no_word w next b none = ap (λ z. sees_word w (front z next)) b.is ∙ no_word_by w b.lexeme b.head none (is_word w b.lexeme) refl

no_mark_by : (k : Kind) (bs : List ℕ) → is_nothing (head_in (word_in k bs)) ≡ false → (m : ℕ) (ms : List ℕ) → bytes_eq (mark_in k bs) (m ∷ ms) ≡ false
unfolding mark_in word_in head_in declaration_in construct_in gate_in is_name name_in
no_mark_by Identifier bs some m ms = refl
no_mark_by Number bs some m ms = refl
no_mark_by Str bs some m ms = refl
no_mark_by Mark bs some m ms = cc

pub begin_no_mark : (m : ℕ) (ms : List ℕ) {us : List Lexeme} (next : Option Lexeme) → Begin us → sees (m ∷ ms) (front us next) ≡ false
unfolding sees is_mark head_of word_if
begin_no_mark m ms next b = ap (λ z. sees (m ∷ ms) (front z next)) b.is ∙ no_mark_by b.lexeme.kind b.lexeme.bytes b.head m ms
