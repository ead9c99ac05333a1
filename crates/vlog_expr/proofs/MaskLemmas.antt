-- What a mask leaves as it was.
use Rattle.std.proofs.Common.{◌≡◌, ℕ, zero, suc, ◌+◌, ◌-◌, ◌<◌, ◌≤◌, Bool, true, false, List, [], ◌∷◌, ◌++◌, length, map, drop, Option, Some, None, refl, sym, ap, ◌∙◌, arith}
use Rattle.std.specs.Prelude.{if◌then◌else◌}
use Rattle.std.specs.List.{list_any}
use Rattle.std.proofs.lemmas.List.{drop-map, length-map}
use Rattle.rdc_outside.specs.declared.source.Place.{Place}
use Rattle.vlog_lex.specs.declared.tokens.Token.{Token}
use Rattle.vlog_lex.specs.declared.tokens.Kind.{Kind}
use Rattle.vlog_lex.specs.declared.tokens.Kind.TheVariants.{Identifier, Number, Str, Mark}
use Rattle.vlog_tree.specs.Lexemes.{Lexeme, lexeme, lexemes, mark_in, word_in, digits_in, mark_of, word_of}
use Rattle.vlog_tree.specs.Names.{name_of, name_in}
use Rattle.vlog_tree.specs.Numbers.{is_z}
use Rattle.vlog_expr.specs.Reading.{first, place_if, mark_if, word_if, name_if}
use Rattle.vlog_expr.specs.Plain.{masked, mask, seen}

mark_by : (b : Bool) (bs : List ℕ) → mark_in (if b then Str else Number) bs ≡ []
unfolding mark_in
mark_by true bs = refl
mark_by false bs = refl

word_by : (b : Bool) (bs : List ℕ) → word_in (if b then Str else Number) bs ≡ []
unfolding word_in
word_by true bs = refl
word_by false bs = refl

mark_as : (k : Kind) (bs : List ℕ) → mark_in (masked k bs) bs ≡ mark_in k bs
unfolding masked mark_in
mark_as Identifier bs = refl
mark_as Number bs = mark_by (list_any is_z bs) bs
mark_as Str bs = refl
mark_as Mark bs = refl

word_as : (k : Kind) (bs : List ℕ) → word_in (masked k bs) bs ≡ word_in k bs
unfolding masked word_in
word_as Identifier bs = refl
word_as Number bs = word_by (list_any is_z bs) bs
word_as Str bs = refl
word_as Mark bs = refl

twice_by : (b : Bool) (bs : List ℕ) → list_any is_z bs ≡ b → masked (if b then Str else Number) bs ≡ (if b then Str else Number)
unfolding masked
twice_by true bs e = refl
twice_by false bs e = ap (λ b. if b then Str else Number) e

twice_as : (k : Kind) (bs : List ℕ) → masked (masked k bs) bs ≡ masked k bs
unfolding masked
twice_as Identifier bs = refl
twice_as Number bs = twice_by (list_any is_z bs) bs refl
twice_as Str bs = refl
twice_as Mark bs = refl

pub mask-mark : (l : Lexeme) → mark_of (mask l) ≡ mark_of l
unfolding mask
mask-mark l = mark_as l.kind l.bytes

pub mask-word : (l : Lexeme) → word_of (mask l) ≡ word_of l
unfolding mask
mask-word l = word_as l.kind l.bytes

-- a mask is put on once
pub masked_once : (ls : List Lexeme) → map mask (map mask ls) ≡ map mask ls
unfolding mask
masked_once [] = refl
masked_once (l ∷ ls) = ap (λ k. record { kind = k; bytes = l.bytes; place = l.place } ∷ map mask (map mask ls)) (twice_as l.kind l.bytes) ∙ ap (λ xs. mask l ∷ xs) (masked_once ls)

pub first-mask : (ls : List Lexeme) → (mark_if (first (map mask ls)) ≡ mark_if (first ls)) × (word_if (first (map mask ls)) ≡ word_if (first ls))
    × (name_if (first (map mask ls)) ≡ name_if (first ls)) × (place_if (first (map mask ls)) ≡ place_if (first ls))
unfolding first mark_if word_if name_if place_if name_of mask
first-mask [] = (refl, refl, refl, refl)
first-mask (l ∷ ls) = (mark_as l.kind l.bytes, word_as l.kind l.bytes, ap name_in (word_as l.kind l.bytes), refl)

pub length-mask : (ls : List Lexeme) → length (map mask ls) ≡ length ls
length-mask [] = refl
length-mask (l ∷ ls) = ap suc (length-mask ls)

-- what is seen either way
pub seen-true : (ls : List Lexeme) → seen true ls ≡ ls
unfolding seen
seen-true ls = refl

pub seen-false : (ls : List Lexeme) → seen false ls ≡ map mask ls
unfolding seen
seen-false ls = refl

pub mask-seen : (w : Bool) (ls : List Lexeme) → map mask (seen w ls) ≡ map mask ls
unfolding seen
mask-seen true ls = refl
mask-seen false ls = masked_once ls

pub seen-mark : (w : Bool) (ls : List Lexeme) → mark_if (first (seen w ls)) ≡ mark_if (first ls)
unfolding seen
seen-mark true ls = refl
seen-mark false ls = (first-mask ls).0

pub seen-word : (w : Bool) (ls : List Lexeme) → word_if (first (seen w ls)) ≡ word_if (first ls)
unfolding seen
seen-word true ls = refl
seen-word false ls = (first-mask ls).1

pub seen-name : (w : Bool) (ls : List Lexeme) → name_if (first (seen w ls)) ≡ name_if (first ls)
unfolding seen
seen-name true ls = refl
seen-name false ls = (first-mask ls).2

pub seen-place : (w : Bool) (ls : List Lexeme) → place_if (first (seen w ls)) ≡ place_if (first ls)
unfolding seen
seen-place true ls = refl
seen-place false ls = (first-mask ls).3

pub seen-length : (w : Bool) (ls : List Lexeme) → length (seen w ls) ≡ length ls
unfolding seen
seen-length true ls = refl
seen-length false ls = length-mask ls

pub seen_count : (w : Bool) (bytes : List ℕ) (places : List Place) (ts : List Token) → length (seen w (lexemes bytes places ts)) ≡ length ts
seen_count w bytes places ts = seen-length w (lexemes bytes places ts) ∙ length-map ts (lexeme bytes places)

pub seen-drop : (w : Bool) (n : ℕ) (ls : List Lexeme) → seen w (drop n ls) ≡ drop n (seen w ls)
unfolding seen
seen-drop true n ls = refl
seen-drop false n ls = sym (drop-map mask n ls)

pub seen-behind : (w : Bool) (bytes : List ℕ) (places : List Place) (ts : List Token) (n : ℕ) → seen w (lexemes bytes places (drop n ts)) ≡ drop n (seen w (lexemes bytes places ts))
seen-behind w bytes places ts n = ap (seen w) (sym (drop-map (lexeme bytes places) n ts)) ∙ seen-drop w n (lexemes bytes places ts)

pub ruleset sights = (seen-true, seen-false, mask-seen, seen-mark, seen-word, seen-name, seen-place, seen-length, seen-drop)
