-- What a reading of the chunk in front says of all lexemes, and of those before.
use Rattle.std.proofs.Common.{◌≡◌, ℕ, ◌+◌, ◌<◌, ◌≤◌, true, false, List, [], ◌∷◌, ◌++◌, length, drop, Ok, Err, refl, sym, ap, ◌∙◌, subst, append-nil, append_assoc, length-append, arith}
use Rattle.std.specs.Prelude.{codes, Bool, ◌||◌}
use Rattle.std.specs.List.{list_any}
use Rattle.std.proofs.lemmas.List.Folds.{list_any-append}
use Rattle.std.proofs.Math.Seq.{drop-append_seam}
use Rattle.vlog_tree.specs.declared.module.Module.{Module}
use Rattle.vlog_tree.specs.Lexemes.{Lexeme, is_word, IsWord}
use Rattle.vlog_tree.specs.Modules as t
use Rattle.vlog_tree.specs.Modules.{SpellsModule, SpellsModules}
use Rattle.vlog_tree.specs.Depth.{deepest, depth_of_module, depth_of_modules}
use Rattle.vlog_expr.specs.declared.stuck.Stuck.TheVariants.{Wrong, Deep}
use Rattle.vlog_expr.specs.Reading.{first, sees_word, expect_word}
use Rattle.vlog_parse.specs.declared.stop.Stop.{Stop}
use Rattle.vlog_parse.specs.declared.stop.Stop.TheVariants as stop
use Rattle.vlog_parse.specs.Modules.{module_of}
use Rattle.vlog_parse.specs.Begins.{NoneBegins, NoShallowBegins, SinceModule, IsAnswer, IsFront, IsBehind, StopsWrong, StopsDeep, IsStop}
use Rattle.vlog_parse.proofs.Given.{laws}
use Rattle.vlog_parse.proofs.ModuleBegins.{module_spelled, deep_long}
use Rattle.vlog_parse.proofs.FreeLemmas.{Free, moved}
use Rattle.vlog_parse.proofs.FreeModules.{one_word}
use Rattle.vlog_parse.proofs.CutLemmas.{Cut, front_free}
use Rattle.vlog_parse.proofs.StopLemmas.{stepped, wrong_none, deep_none, past, behind_none}

-- a reading that is wrong
pub wrong_front : (ls chunk rest left : List Lexeme) → Cut ls chunk rest → module_of 255 chunk ≡ (Err Wrong, left) → StopsWrong ls (length left + length rest)
wrong_front ls chunk rest left c h =
    let s = stepped chunk (Err Wrong) left h in
    record {
      pre = s.pre;
      rest = left ++ rest;
      parts = c.parts ∙ (ap (λ z. z ++ rest) s.parts ∙ append_assoc s.pre left rest);
      counted = sym (length-append left rest);
      none = wrong_none ls chunk rest s.pre left c s.parts h;
    }

-- where a reading wants room, the word `module` stands in front
not_headed : (room : ℕ) (l : Lexeme) (ls : List Lexeme) → is_word (codes "module") l ≡ false → module_of room (l ∷ ls) ≡ (Err Wrong, l ∷ ls)
unfolding module_of expect_word sees_word first
not_headed room l ls other = rw other refl

headed : (room : ℕ) (l : Lexeme) (ls left : List Lexeme) → module_of room (l ∷ ls) ≡ (Err Deep, left) → IsWord (codes "module") l
headed room l ls left h = by (is_word (codes "module") l) refl
  where
    by : (b : Bool) → is_word (codes "module") l ≡ b → is_word (codes "module") l ≡ true
    by true is = is
    by false is = let never = ap (λ o. o.0) (sym (not_headed room l ls is) ∙ h) in cc

since_by : (pre left inside : List Lexeme) (head : Lexeme) → head ∷ inside ≡ pre ++ left → 254 ≤ length pre → IsWord (codes "module") head → Free inside → SinceModule pre pre
since_by [] left inside head e many is f = absurd (omega arith)
since_by (p ∷ pre) left inside head e many is f =
    let same : head ≡ p = cc in
    let others : inside ≡ pre ++ left = cc in
    record { before = []; word = p; inside = pre; parts = refl; begins = refl; worded = subst (λ l. IsWord (codes "module") l) same is; last = front_free pre left (moved (sym others) f) }

-- a reading that wants room
pub deep_front : (ls chunk rest left : List Lexeme) → Cut ls chunk rest → module_of 255 chunk ≡ (Err Deep, left) → StopsDeep ls (length left + length rest)
deep_front ls chunk rest left c h =
    let s = stepped chunk (Err Deep) left h in
    let here : module_of 255 (s.pre ++ left) ≡ (Err Deep, left) = ap (module_of 255) (sym s.parts) ∙ h in
    let long = deep_long laws 255 s.pre left here in
    let many : 254 ≤ length s.pre = omega arith in
    let is = headed 255 c.head c.inside left (ap (module_of 255) (sym c.is) ∙ h) in
    record {
      pre = s.pre;
      rest = left ++ rest;
      since = s.pre;
      parts = c.parts ∙ (ap (λ z. z ++ rest) s.parts ∙ append_assoc s.pre left rest);
      counted = sym (length-append left rest);
      none = deep_none ls chunk rest s.pre left c s.parts h;
      from = since_by s.pre left c.inside c.head (sym c.is ∙ s.parts) many is c.free;
      many = many;
    }

-- a module, and nothing behind it
pub whole_front : (ls chunk rest : List Lexeme) (m : Module) → Cut ls chunk rest → module_of 255 chunk ≡ (Ok m, []) → IsFront ls m (length chunk)
whole_front ls chunk rest m c h =
    let s = module_spelled laws 255 (omega arith) chunk [] m h in
    let same : chunk ≡ s.0 = s.1 ∙ append-nil s.0 in
    record { pre = chunk; rest = rest; parts = c.parts; counted = refl; spelled = subst (λ z. SpellsModule z m) (sym same) s.2; shallow = let low = s.3 in omega arith }

by_last : (a b c : Bool) → (a || (b || c)) ≡ false → b ≡ false
by_last true b c e = cc
by_last false true c e = cc
by_last false false c e = refl

last_free : (us left : List Lexeme) (l : Lexeme) → Free (us ++ l ∷ left) → is_word (codes "module") l ≡ false
last_free us left l f = by_last (list_any (is_word (codes "module")) us) (is_word (codes "module") l) (list_any (is_word (codes "module")) left)
    (sym (list_any-append (is_word (codes "module")) us (l ∷ left)) ∙ f.none)

behind_other : (us left inside : List Lexeme) (l head : Lexeme) (m : Module) → SpellsModule us m → head ∷ inside ≡ us ++ l ∷ left → Free inside → is_word (codes "module") l ≡ false
behind_other us left inside l head m s e f =
    let w = one_word s in
    let whole : head ∷ inside ≡ w.head ∷ (w.inside ++ l ∷ left) = e ∙ ap (λ z. z ++ l ∷ left) w.is in
    let others : inside ≡ w.inside ++ l ∷ left = cc in
    last_free w.inside left l (moved (sym others) f)

-- a module, and no word `module` behind it
pub more_front : (ls chunk rest left : List Lexeme) (l : Lexeme) (m : Module) → Cut ls chunk rest → module_of 255 chunk ≡ (Ok m, l ∷ left) → StopsWrong ls (length (l ∷ left) + length rest)
more_front ls chunk rest left l m c h =
    let s = module_spelled laws 255 (omega arith) chunk (l ∷ left) m h in
    let other = behind_other s.0 left c.inside l c.head m s.2 (sym c.is ∙ s.1) c.free in
    record {
      pre = s.0;
      rest = (l ∷ left) ++ rest;
      parts = c.parts ∙ (ap (λ z. z ++ rest) s.1 ∙ append_assoc s.0 (l ∷ left) rest);
      counted = sym (length-append (l ∷ left) rest);
      none = behind_none s.0 (left ++ rest) l m s.2 other;
    }

-- modules and one more
deep_last : (ms : List Module) (m : Module) → depth_of_modules ms < 256 → depth_of_module m < 256 → depth_of_modules (ms ++ m ∷ []) < 256
unfolding depth_of_modules deepest
deep_last [] m low one = omega arith
deep_last (n ∷ ms) m low one = let rest = deep_last ms m (omega arith) one in omega arith

deep_part : (ms others : List Module) → depth_of_modules others ≤ depth_of_modules (ms ++ others)
unfolding depth_of_modules deepest
deep_part [] others = omega arith
deep_part (m ∷ ms) others = let rest = deep_part ms others in omega arith

spelled_last : (us xs : List Lexeme) (ms : List Module) (m : Module) → SpellsModules us ms → SpellsModule xs m → SpellsModules (us ++ xs) (ms ++ m ∷ [])
spelled_last us xs ms m (t.none nil all) s =
    t.more xs [] m [] s (t.none refl refl) (ap (λ z. z ++ xs) nil ∙ sym (append-nil xs)) (ap (λ z. z ++ m ∷ []) all)
spelled_last us xs ms m (t.more ws ys n others h o parts all) s =
    t.more ws (ys ++ xs) n (others ++ m ∷ []) h (spelled_last ys xs others m o s) (ap (λ z. z ++ xs) parts ∙ append_assoc ws ys xs) (ap (λ z. z ++ m ∷ []) all)

pub none_behind : (ls : List Lexeme) → IsBehind ls [] ls
unfolding depth_of_modules deepest
none_behind ls = record { pre = []; parts = refl; spelled = t.none refl refl; shallow = omega arith }

pub one_behind : (ls ahead : List Lexeme) (ms : List Module) (m : Module) (count : ℕ) → IsBehind ls ms ahead → IsFront ahead m count → IsBehind ls (ms ++ m ∷ []) (drop count ahead)
one_behind ls ahead ms m count b f =
    let left : drop count ahead ≡ f.rest = ap (λ n. drop n ahead) f.counted ∙ (ap (drop (length f.pre)) f.parts ∙ drop-append_seam f.pre f.rest) in
    record {
      pre = b.pre ++ f.pre;
      parts = b.parts ∙ (ap (λ z. b.pre ++ z) (f.parts ∙ ap (λ z. f.pre ++ z) (sym left)) ∙ sym (append_assoc b.pre f.pre (drop count ahead)));
      spelled = spelled_last b.pre f.pre ms m b.spelled f.spelled;
      shallow = deep_last ms m b.shallow f.shallow;
    }

pub all_behind : (ls ahead : List Lexeme) (ms : List Module) → IsBehind ls ms ahead → ahead ≡ [] → IsAnswer ls ms
all_behind ls ahead ms b none =
    let same : ls ≡ b.pre = b.parts ∙ (ap (λ z. b.pre ++ z) none ∙ append-nil b.pre) in
    record { spelled = subst (λ z. SpellsModules z ms) (sym same) b.spelled; shallow = b.shallow }

none_later : (us pre rest : List Lexeme) (ms : List Module) → SpellsModules us ms → NoneBegins pre rest → NoneBegins (us ++ pre) rest
none_later us pre rest ms s none vs ns t alike =
    let p = past us (pre ++ vs) ms ns s (subst (λ z. SpellsModules z ns) (append_assoc us pre vs) t) in
    none vs p.others p.spelled alike

shallow_later : (us pre rest : List Lexeme) (ms : List Module) → SpellsModules us ms → NoShallowBegins pre rest → NoShallowBegins (us ++ pre) rest
shallow_later us pre rest ms s none vs ns t low alike =
    let p = past us (pre ++ vs) ms ns s (subst (λ z. SpellsModules z ns) (append_assoc us pre vs) t) in
    let part = deep_part ms p.others in
    let whole = ap depth_of_modules p.all in
    none vs p.others p.spelled (omega arith) alike

-- where what stands behind modules stops, all stops
pub stop_behind : (ls ahead : List Lexeme) (ms : List Module) (s : Stop) → IsBehind ls ms ahead → IsStop ahead s → IsStop ls s
stop_behind ls ahead ms stop.Memory b i = tt
stop_behind ls ahead ms (stop.Wrong left) b i = record {
  pre = b.pre ++ i.pre;
  rest = i.rest;
  parts = b.parts ∙ (ap (λ z. b.pre ++ z) i.parts ∙ sym (append_assoc b.pre i.pre i.rest));
  counted = i.counted;
  none = none_later b.pre i.pre i.rest ms b.spelled i.none;
}
stop_behind ls ahead ms (stop.Deep left) b i =
    let w = i.from in
    record {
      pre = b.pre ++ i.pre;
      rest = i.rest;
      since = i.since;
      parts = b.parts ∙ (ap (λ z. b.pre ++ z) i.parts ∙ sym (append_assoc b.pre i.pre i.rest));
      counted = i.counted;
      none = shallow_later b.pre i.pre i.rest ms b.spelled i.none;
      from = record { before = b.pre ++ w.before; word = w.word; inside = w.inside; parts = ap (λ z. b.pre ++ z) w.parts ∙ sym (append_assoc b.pre w.before i.since); begins = w.begins; worded = w.worded; last = w.last };
      many = i.many;
    }
