-- A text has one list of tokens, and none where it is stuck.
use Rattle.std.proofs.Common.{◌≡◌, ℕ, ◌+◌, ◌<◌, ◌≤◌, Bool, true, false, List, [], ◌∷◌, ◌++◌, length, drop, refl, sym, ap, subst, ◌∙◌, append_assoc, append-nil, length-append, arith, ⊎_elim}
use Rattle.std.specs.Prelude.{◌⊎◌, MatchBool, Result, Ok, Err, IfOk, IfErr, MatchResult}
use Rattle.rdc_outside.specs.declared.source.Place.{Place}
use Rattle.vlog_lex.specs.declared.fault.LexFault.{LexFault}
use Rattle.vlog_lex.specs.declared.fault.LexFault.TheVariants.{Memory}
use Rattle.vlog_lex.specs.declared.tokens.Kind.TheVariants.{Mark}
use Rattle.std.proofs.lemmas.List.Elements.{All-push}
use Rattle.vlog_lex.specs.declared.tokens.Token.{Token}
use Rattle.vlog_lex.specs.declared.piece.Piece.{Piece}
use Rattle.vlog_lex.specs.declared.piece.Piece.TheVariants.{Gap, One, OpenMarks}
use Rattle.vlog_lex.specs.declared.piece.Broken.{Broken}
use Rattle.vlog_lex.specs.declared.piece.Part.{Part}
use Rattle.vlog_lex.specs.Pieces.{IsSimple, Breaks, len_of}
use Rattle.vlog_lex.specs.Attributes.{IsAttributeFrom, ends, goes}
use Rattle.vlog_lex.specs.Tokens.{opens, IsAttribute, AreOpenMarks, Stands, Fails, tokens_of, AreTokens, none, more, IsStuckAt, here, later, IsFault, token_at, AreWithin}
use Rattle.vlog_lex.proofs.PieceLemmas.{nothing, one_simple, not_broken}
use Rattle.vlog_lex.proofs.AttributeLemmas.{end_stops, one_step}

-- an attribute has one length
one_attribute : (part : Part) (bs : List ℕ) (m n : ℕ) → IsAttributeFrom part bs m → IsAttributeFrom part bs n → m ≡ n
one_attribute part bs m n (ends end size) (ends finish length) = size ∙ sym length
one_attribute part bs m n (ends end size) (goes next count k on rest whole) = absurd (end_stops part next bs count end on)
one_attribute part bs m n (goes next count k on rest whole) (ends end size) = absurd (end_stops part next bs count end on)
one_attribute part bs m n (goes next count k on rest whole) (goes other many j also left sum) =
    let same = one_step part bs next other count many on also in
    let moved : IsAttributeFrom next (drop many bs) j = subst (λ (p : Part). IsAttributeFrom p (drop many bs) j) (sym same.0) left in
    let back : IsAttributeFrom next (drop count bs) j = subst (λ (c : ℕ). IsAttributeFrom next (drop c bs) j) (sym same.1) moved in
    let tail = one_attribute next (drop count bs) k j rest back in
    let step = same.1 in
    omega arith

both_attributes : (bs : List ℕ) (p q : Piece) → IsAttribute bs p → IsAttribute bs q → p ≡ q
both_attributes bs p q is also =
    let same = one_attribute _ (drop 2 bs) is.count also.count is.whole also.whole in
    is.piece ∙ ap (λ (n : ℕ). Gap (2 + n)) same ∙ sym also.piece

one_opened : (bs : List ℕ) (p q : Piece) → IsAttribute bs p ⊎ AreOpenMarks bs p → IsAttribute bs q ⊎ AreOpenMarks bs q → p ≡ q
one_opened bs p q is also =
    ⊎_elim
    (λ attribute. ⊎_elim (λ other. both_attributes bs p q attribute other) (λ marks. absurd (marks.none attribute.count attribute.whole)) also)
    (λ marks. ⊎_elim (λ attribute. absurd (marks.none attribute.count attribute.whole)) (λ others. marks.piece ∙ sym others.piece) also)
    is

one_of_both : (b : Bool) (bs : List ℕ) (p q : Piece) → MatchBool b (IsAttribute bs p ⊎ AreOpenMarks bs p) (IsSimple bs p) → MatchBool b (IsAttribute bs q ⊎ AreOpenMarks bs q) (IsSimple bs q) → p ≡ q
one_of_both true bs p q is also = one_opened bs p q is also
one_of_both false bs p q is also = one_simple bs p q is also

-- one piece stands in front
pub one_piece : (bs : List ℕ) (p q : Piece) → Stands bs p → Stands bs q → p ≡ q
one_piece bs p q is also = one_of_both (opens bs) bs p q is also

not_both : (b : Bool) (bs : List ℕ) (p : Piece) (f : Broken) → MatchBool b (IsAttribute bs p ⊎ AreOpenMarks bs p) (IsSimple bs p) → MatchBool b ⊥ (Breaks bs f) → ⊥
not_both true bs p f is fails = fails
not_both false bs p f is fails = not_broken bs p f is fails

-- where a piece stands nothing fails
pub not_failing : (bs : List ℕ) (p : Piece) (f : Broken) → Stands bs p → Fails bs f → ⊥
not_failing bs p f is fails = not_both (opens bs) bs p f is fails

-- nothing stands at the end of a text
pub none_at_end : (bs : List ℕ) (p : Piece) → bs ≡ [] → Stands bs p → ⊥
unfolding opens
none_at_end [] p is stands = nothing [] p refl stands
none_at_end (b ∷ bs) p is stands = cc

-- a text has one list of tokens
pub one_list_at : (at : ℕ) (bs : List ℕ) (ts us : List Token) → AreTokens at bs ts → AreTokens at bs us → ts ≡ us
one_list_at at bs ts us (none ended is) (none over also) = is ∙ sym also
one_list_at at bs ts us (none ended is) (more p vs stands rest whole) = absurd (none_at_end bs p ended stands)
one_list_at at bs ts us (more p vs stands rest whole) (none ended is) = absurd (none_at_end bs p ended stands)
one_list_at at bs ts us (more p vs stands rest whole) (more q ws also left sum) =
    let same : q ≡ p = one_piece bs q p also stands in
    let back : AreTokens (at + len_of p) (drop (len_of p) bs) ws = subst (λ (r : Piece). AreTokens (at + len_of r) (drop (len_of r) bs) ws) same left in
    let tail = one_list_at (at + len_of p) (drop (len_of p) bs) vs ws rest back in
    whole ∙ ap (λ (r : List Token). tokens_of p at ++ r) tail ∙ ap (λ (r : Piece). tokens_of r at ++ ws) (sym same) ∙ sym sum

-- a text that is stuck has no tokens
pub not_stuck : (at : ℕ) (bs : List ℕ) (ts : List Token) (place : ℕ) (f : Broken) → AreTokens at bs ts → IsStuckAt at bs place f → ⊥
not_stuck at bs ts place f (none ended is) (here some fails there) = some ended
not_stuck at bs ts place f (none ended is) (later p stands rest) = none_at_end bs p ended stands
not_stuck at bs ts place f (more p us stands rest whole) (here some fails there) = not_failing bs p f stands fails
not_stuck at bs ts place f (more p us stands rest whole) (later q also left) =
    let same : q ≡ p = one_piece bs q p also stands in
    let back : IsStuckAt (at + len_of p) (drop (len_of p) bs) place f = subst (λ (r : Piece). IsStuckAt (at + len_of r) (drop (len_of r) bs) place f) same left in
    not_stuck (at + len_of p) (drop (len_of p) bs) us place f rest back

-- one more piece: what completes the tokens so far
pub tokens_more : (bytes bs rest : List ℕ) (at count : ℕ) (so_far new : List Token) (p : Piece) → Stands bs p → count ≡ len_of p → rest ≡ drop count bs → new ≡ so_far ++ tokens_of p at → ((us : List Token) → AreTokens at bs us → AreTokens 0 bytes (so_far ++ us)) → (us : List Token) → AreTokens (at + count) rest us → AreTokens 0 bytes (new ++ us)
tokens_more bytes bs rest at count so_far new p stands size is pushed sound us are =
    let left : rest ≡ drop (len_of p) bs = is ∙ ap (λ (n : ℕ). drop n bs) size in
    let sized : AreTokens (at + len_of p) rest us = subst (λ (n : ℕ). AreTokens (at + n) rest us) size are in
    let moved : AreTokens (at + len_of p) (drop (len_of p) bs) us = subst (λ (r : List ℕ). AreTokens (at + len_of p) r us) left sized in
    let whole : AreTokens 0 bytes (so_far ++ (tokens_of p at ++ us)) = sound (tokens_of p at ++ us) (more p us stands moved refl) in
    let regroup : so_far ++ (tokens_of p at ++ us) ≡ new ++ us = sym (append_assoc so_far (tokens_of p at) us) ∙ ap (λ (ts : List Token). ts ++ us) (sym pushed) in
    subst (λ (ts : List Token). AreTokens 0 bytes ts) regroup whole

-- one more piece: where what is left is stuck
pub stuck_more : (bytes bs rest : List ℕ) (at count : ℕ) (p : Piece) → Stands bs p → count ≡ len_of p → rest ≡ drop count bs → ((place : ℕ) (f : Broken) → IsStuckAt at bs place f → IsStuckAt 0 bytes place f) → (place : ℕ) (f : Broken) → IsStuckAt (at + count) rest place f → IsStuckAt 0 bytes place f
stuck_more bytes bs rest at count p stands size is stuck place f beyond =
    let left : rest ≡ drop (len_of p) bs = is ∙ ap (λ (n : ℕ). drop n bs) size in
    let sized : IsStuckAt (at + len_of p) rest place f = subst (λ (n : ℕ). IsStuckAt (at + n) rest place f) size beyond in
    stuck place f (later p stands (subst (λ (r : List ℕ). IsStuckAt (at + len_of p) r place f) left sized))

-- all pieces read: the tokens are the text's
pub tokens_end : (bytes rest : List ℕ) (at : ℕ) (so_far : List Token) → rest ≡ [] → ((us : List Token) → AreTokens at rest us → AreTokens 0 bytes (so_far ++ us)) → AreTokens 0 bytes so_far
tokens_end bytes rest at so_far ended sound = subst (λ (ts : List Token). AreTokens 0 bytes ts) (append-nil so_far) (sound [] (none ended refl))

-- an exact answer is the only one, but for want of memory
pub only : {V : Type 0} (items : V → List Token) (r : Result V LexFault) (bs : List ℕ) (places : List Place) → IfOk r (λ v. AreTokens 0 bs (items v)) → IfErr r (IsFault bs places) → (ts : List Token) → AreTokens 0 bs ts → MatchResult r (λ v. items v ≡ ts) (λ fault. fault ≡ Memory)
only items (Ok v) bs places ok err ts are = one_list_at 0 bs (items v) ts ok are
only items (Err f) bs places ok err ts are = ⊎_elim (λ memory. memory) (λ refused. absurd (not_stuck 0 bs ts refused.at refused.cause are refused.stuck)) err

widen : (m n : ℕ) (ts : List Token) → m ≤ n → AreWithin m ts → AreWithin n ts
widen m n ts less within k d inside = let one = within k d inside in (one.0, omega (arith, one.1))

abbrev IsWithin : ℕ → Token → Type 0
IsWithin m t = (t.from < t.to) × (t.to ≤ m)

-- one more piece: its tokens stand in the text too
pieces_within : (at : ℕ) (p : Piece) (ts : List Token) → 0 < len_of p → AreWithin at ts → AreWithin (at + len_of p) (ts ++ tokens_of p at)
pieces_within at (Gap n) ts some within = subst (λ (us : List Token). AreWithin (at + n) us) (sym (append-nil ts)) (widen at (at + n) ts (omega arith) within)
pieces_within at (One kind n) ts some within =
    let fits : IsWithin (at + n) (token_at kind at n) = (omega arith, omega arith) in
    All-push (IsWithin (at + n)) ts (token_at kind at n) (widen at (at + n) ts (omega arith) within) fits
pieces_within at OpenMarks ts some within =
    let first : Token = token_at Mark at 1 in
    let second : Token = token_at Mark (at + 1) 1 in
    let fits : IsWithin (at + 2) first = (omega arith, omega arith) in
    let also : IsWithin (at + 2) second = (omega arith, omega arith) in
    let one : AreWithin (at + 2) (ts ++ first ∷ []) = All-push (IsWithin (at + 2)) ts first (widen at (at + 2) ts (omega arith) within) fits in
    let both : AreWithin (at + 2) ((ts ++ first ∷ []) ++ second ∷ []) = All-push (IsWithin (at + 2)) (ts ++ first ∷ []) second one also in
    subst (λ (us : List Token). AreWithin (at + 2) us) (append_assoc ts (first ∷ []) (second ∷ [])) both

pub within_more : (at count : ℕ) (p : Piece) (ts new : List Token) → count ≡ len_of p → 0 < len_of p → new ≡ ts ++ tokens_of p at → AreWithin at ts → AreWithin (at + count) new
within_more at count p ts new size some pushed within =
    let whole : AreWithin (at + len_of p) (ts ++ tokens_of p at) = pieces_within at p ts some within in
    let moved : AreWithin (at + len_of p) new = subst (λ (us : List Token). AreWithin (at + len_of p) us) (sym pushed) whole in
    subst (λ (n : ℕ). AreWithin (at + n) new) (sym size) moved

-- a piece has no more tokens than bytes
tokens_few : (p : Piece) (at : ℕ) → 0 < len_of p → length (tokens_of p at) ≤ len_of p
tokens_few (Gap n) at some = omega arith
tokens_few (One kind n) at some = omega (arith, some)
tokens_few OpenMarks at some = omega arith

pub few_more : (at count : ℕ) (p : Piece) (ts new : List Token) → count ≡ len_of p → 0 < len_of p → new ≡ ts ++ tokens_of p at → length ts ≤ at → length new ≤ at + count
few_more at count p ts new size some pushed few = omega (arith, size, ap length pushed, length-append ts (tokens_of p at), tokens_few p at some, few)
