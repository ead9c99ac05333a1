-- From tokens to lexemes, and from what is read to what is answered.
use Rattle.std.proofs.Common.{map, ◌≡◌, ◌≢◌, ℕ, ◌+◌, ◌-◌, ◌<◌, ◌≤◌, ◌⊎◌, inl, inr, List, [], ◌∷◌, ◌++◌, length, take, drop, Option, Some, None, Result, Ok, Err, refl, sym, ap, ◌∙◌, subst, length-append, arith}
use Rattle.std.proofs.lemmas.List.{length-map, take-map, drop-map}
use Rattle.std.proofs.Math.Seq.{take-append_seam, drop-append_seam}
use Rattle.rdc_outside.specs.declared.source.Place.{Place}
use Rattle.vlog_lex.specs.declared.tokens.Token.{Token}
use Rattle.vlog_tree.specs.declared.module.Module.{Module}
use Rattle.vlog_tree.specs.Lexemes.{Lexeme}
use Rattle.vlog_tree.specs.Modules.{SpellsModules}
use Rattle.vlog_expr.specs.declared.fault.ExprFault.{ExprFault}
use Rattle.vlog_expr.specs.declared.fault.ExprFault.TheVariants as of_expr
use Rattle.vlog_expr.specs.declared.stuck.Stuck.{Stuck}
use Rattle.vlog_expr.specs.declared.stuck.Stuck.TheVariants.{Memory, Wrong, Deep}
use Rattle.vlog_expr.specs.Reading.{first}
use Rattle.vlog_expr.specs.Begins.{last, refusal, named_place, fault_of}
use Rattle.vlog_expr.proofs.Readers.{shorter}
use Rattle.vlog_parse.specs.declared.fault.ParseFault.{ParseFault}
use Rattle.vlog_parse.specs.declared.fault.ParseFault.TheVariants as fault
use Rattle.vlog_parse.specs.Modules.{module_of}
use Rattle.vlog_parse.specs.Cuts.{next_module}
use Rattle.vlog_parse.specs.Begins.{NoneBegins, IsAnswer, IsFault, IsFront, RefusesDepth, StopsWrong, StopsDeep, IsStop, same_fault, stop_of}
use Rattle.vlog_parse.proofs.CutLemmas.{Cut, cut, next_shorter}
use Rattle.vlog_parse.proofs.StopLemmas.{stepped}
use Rattle.vlog_parse.proofs.FrontLemmas.{wrong_front, deep_front, whole_front, more_front}

-- the fault that names a lexeme
by_word : (end : Place) (ls pre rest : List Lexeme) (word : Option (List ℕ)) → ls ≡ pre ++ rest → refusal (last pre) (first rest) ≡ word → NoneBegins pre rest → IsFault end ls (same_fault (fault_of (named_place end (first rest)) word))
unfolding fault_of same_fault
by_word end ls pre rest None parts is none = record { pre = pre; rest = rest; names = record { parts = parts; place_is = refl; word_is = is }; none = none }
by_word end ls pre rest (Some word) parts is none = record { pre = pre; rest = rest; names = record { parts = parts; place_is = refl; word_is = is }; none = none }

record Parted (f : Token → Lexeme) (tokens : List Token) (left : ℕ) (pre rest : List Lexeme) : Type 0 where
  pub before : map f (take (length tokens - left) tokens) ≡ pre
  pub behind : map f (drop (length tokens - left) tokens) ≡ rest

parted : (f : Token → Lexeme) (tokens : List Token) (left : ℕ) (pre rest : List Lexeme) → map f tokens ≡ pre ++ rest → left ≡ length rest → Parted f tokens left pre rest
parted f tokens left pre rest parts counted =
    let at : length tokens - left ≡ length pre = omega (arith, length-map tokens f, ap length parts, length-append pre rest) in
    record {
      before = sym (take-map f (length tokens - left) tokens) ∙ (ap (take (length tokens - left)) parts ∙ (ap (λ n. take n (pre ++ rest)) at ∙ take-append_seam pre rest));
      behind = sym (drop-map f (length tokens - left) tokens) ∙ (ap (drop (length tokens - left)) parts ∙ (ap (λ n. drop n (pre ++ rest)) at ∙ drop-append_seam pre rest));
    }

pub wrong_named : (f : Token → Lexeme) (end : Place) (tokens pre rest : List Token) (left : ℕ) (x : ExprFault) (y : ParseFault) → StopsWrong (map f tokens) left
    → pre ≡ take (length tokens - left) tokens → rest ≡ drop (length tokens - left) tokens
    → (x ≡ of_expr.Memory) ⊎ (x ≡ fault_of (named_place end (first (map f rest))) (refusal (last (map f pre)) (first (map f rest)))) → y ≡ same_fault x → IsFault end (map f tokens) y
unfolding same_fault
wrong_named f end tokens pre rest left x y s front back (inl memory) same = subst (IsFault end (map f tokens)) (sym (same ∙ ap same_fault memory)) tt
wrong_named f end tokens pre rest left x y s front back (inr is) same =
    let p = parted f tokens left s.pre s.rest s.parts s.counted in
    let a : map f pre ≡ s.pre = ap (map f) front ∙ p.before in
    let b : map f rest ≡ s.rest = ap (map f) back ∙ p.behind in
    let told : x ≡ fault_of (named_place end (first s.rest)) (refusal (last s.pre) (first s.rest)) =
    is ∙ (ap (λ z. fault_of (named_place end (first z)) (refusal (last (map f pre)) (first z))) b ∙ ap (λ z. fault_of (named_place end (first s.rest)) (refusal (last z) (first s.rest))) a) in
    subst (IsFault end (map f tokens)) (sym (same ∙ ap same_fault told)) (by_word end (map f tokens) s.pre s.rest (refusal (last s.pre) (first s.rest)) s.parts refl s.none)

pub deep_named : (f : Token → Lexeme) (end : Place) (tokens rest : List Token) (left : ℕ) (place : Place) → StopsDeep (map f tokens) left
    → rest ≡ drop (length tokens - left) tokens → place ≡ named_place end (first (map f rest)) → RefusesDepth end (map f tokens) place
deep_named f end tokens rest left place s back is =
    let p = parted f tokens left s.pre s.rest s.parts s.counted in
    record {
      pre = s.pre;
      rest = s.rest;
      since = s.since;
      parts = s.parts;
      place_is = is ∙ ap (λ z. named_place end (first z)) (ap (map f) back ∙ p.behind);
      none = s.none;
      from = s.from;
      many = s.many;
    }

-- a chunk of tokens in front, and what was read of it
pub record Chunk (f : Token → Lexeme) (ahead : List Token) (behind n : ℕ) (mid : List Lexeme) (v : Result Module Stuck) : Type 0 where
  pub chunk : List Lexeme
  pub cut : Cut (map f ahead) chunk (next_module (map f ahead))
  pub read : module_of 255 chunk ≡ (v, mid)
  pub long : length chunk ≡ n
  pub behind_is : behind ≡ length (next_module (map f ahead))
  pub all : n + behind ≡ length ahead
  pub few : length mid ≤ n

pub chunk_of : (f : Token → Lexeme) (ahead front : List Token) (behind : ℕ) (cursor mid : List Lexeme) (v : Result Module Stuck) → 1 ≤ length ahead → behind ≡ length (next_module (map f ahead))
    → front ≡ take (length ahead - behind) ahead → cursor ≡ map f front → module_of 255 cursor ≡ (v, mid) → Chunk f ahead behind (length ahead - behind) mid v
chunk_of f ahead front behind cursor mid v some is front_is same h =
    let ls = map f ahead in
    let n = length ahead - behind in
    let fewer = next_shorter ls in
    let counted : n + length (next_module ls) ≡ length ls = omega (arith, length-map ahead f) in
    let c = cut ls n (omega (arith, length-map ahead f)) counted in
    let whole : map f front ≡ take n ls = ap (map f) front_is ∙ sym (take-map f n ahead) in
    let read : module_of 255 (take n ls) ≡ (v, mid) = ap (module_of 255) (sym (same ∙ whole)) ∙ h in
    let long : length (take n ls) ≡ n = omega (arith, ap length c.parts, length-append (take n ls) (next_module ls)) in
    let less = shorter (stepped (take n ls) v mid read) in
    record { chunk = take n ls; cut = c; read = read; long = long; behind_is = is; all = omega (arith, length-map ahead f); few = omega (arith, long) }

left_is : (f : Token → Lexeme) (ahead : List Token) (behind n : ℕ) (mid : List Lexeme) (v : Result Module Stuck) (left : ℕ) → Chunk f ahead behind n mid v → left ≡ length mid → length mid + length (next_module (map f ahead)) ≡ length ahead - (n - left)
left_is f ahead behind n mid v left c is = let few = c.few in let all = c.all in let at = c.behind_is in omega arith

wrong_arm : (f : Token → Lexeme) (ahead : List Token) (behind n : ℕ) (mid : List Lexeme) (left : ℕ) → Chunk f ahead behind n mid (Err Wrong) → left ≡ length mid → StopsWrong (map f ahead) (length ahead - (n - left))
wrong_arm f ahead behind n mid left c is = subst (StopsWrong (map f ahead)) (left_is f ahead behind n mid (Err Wrong) left c is) (wrong_front (map f ahead) c.chunk (next_module (map f ahead)) mid c.cut c.read)

deep_arm : (f : Token → Lexeme) (ahead : List Token) (behind n : ℕ) (mid : List Lexeme) (left : ℕ) → Chunk f ahead behind n mid (Err Deep) → left ≡ length mid → StopsDeep (map f ahead) (length ahead - (n - left))
deep_arm f ahead behind n mid left c is = subst (StopsDeep (map f ahead)) (left_is f ahead behind n mid (Err Deep) left c is) (deep_front (map f ahead) c.chunk (next_module (map f ahead)) mid c.cut c.read)

pub more_arm : (f : Token → Lexeme) (ahead : List Token) (behind n : ℕ) (mid : List Lexeme) (left : ℕ) (m : Module) → Chunk f ahead behind n mid (Ok m) → left ≡ length mid → behind < length ahead - (n - left) → StopsWrong (map f ahead) (length ahead - (n - left))
more_arm f ahead behind n [] left m c is some = let few = c.few in let all = c.all in absurd (omega arith)
more_arm f ahead behind n (l ∷ mid) left m c is some =
    subst (StopsWrong (map f ahead)) (left_is f ahead behind n (l ∷ mid) (Ok m) left c is) (more_front (map f ahead) c.chunk (next_module (map f ahead)) mid l m c.cut c.read)

pub whole_arm : (f : Token → Lexeme) (ahead : List Token) (behind n : ℕ) (mid : List Lexeme) (left : ℕ) (m : Module) → Chunk f ahead behind n mid (Ok m) → left ≡ length mid → length ahead - (n - left) ≤ behind → IsFront (map f ahead) m n
whole_arm f ahead behind n [] left m c is none = subst (IsFront (map f ahead) m) c.long (whole_front (map f ahead) c.chunk (next_module (map f ahead)) m c.cut c.read)
whole_arm f ahead behind n (l ∷ mid) left m c is none = let few = c.few in let all = c.all in absurd (omega arith)

fresh_wrong : Wrong ≢ Memory
fresh_wrong e = cc

fresh_deep : Deep ≢ Memory
fresh_deep e = cc

-- a reading that stops
pub stop_arm : (f : Token → Lexeme) (ahead front : List Token) (behind : ℕ) (cursor mid : List Lexeme) (why : Stuck) (left : ℕ) → 1 ≤ length ahead → behind ≡ length (next_module (map f ahead))
    → front ≡ take (length ahead - behind) ahead → cursor ≡ map f front → (why ≢ Memory → module_of 255 cursor ≡ (Err why, mid)) → left ≡ length mid
    → IsStop (map f ahead) (stop_of why (length ahead - (length ahead - behind - left)))
unfolding stop_of
stop_arm f ahead front behind cursor mid Memory left some is front_is same h counted = tt
stop_arm f ahead front behind cursor mid Wrong left some is front_is same h counted =
    wrong_arm f ahead behind (length ahead - behind) mid left (chunk_of f ahead front behind cursor mid (Err Wrong) some is front_is same (h fresh_wrong)) counted
stop_arm f ahead front behind cursor mid Deep left some is front_is same h counted =
    deep_arm f ahead behind (length ahead - behind) mid left (chunk_of f ahead front behind cursor mid (Err Deep) some is front_is same (h fresh_deep)) counted

-- tokens that spell modules are refused for want of memory alone
pub only_memory : (end : Place) (ls : List Lexeme) (ms : List Module) (x : ParseFault) → IsAnswer ls ms → IsFault end ls x → x ≡ fault.Memory
only_memory end ls ms fault.Memory a i = refl
only_memory end ls ms (fault.Unsupported word place) a i = let n = i.names in absurd (i.none i.rest ms (subst (λ z. SpellsModules z ms) n.parts a.spelled) refl)
only_memory end ls ms (fault.Syntax place) a i = let n = i.names in absurd (i.none i.rest ms (subst (λ z. SpellsModules z ms) n.parts a.spelled) refl)
only_memory end ls ms (fault.TooDeep place) a i = absurd (i.none i.rest ms (subst (λ z. SpellsModules z ms) i.parts a.spelled) a.shallow refl)
