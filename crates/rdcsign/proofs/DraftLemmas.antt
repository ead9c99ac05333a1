-- Serves specs/Draft.antt: a report over the sources looked at so far grows source by source.
use Rattle.std.proofs.Common.{◌≡◌, ℕ, zero, suc, ◌+◌, ◌<◌, ◌≤◌, Bool, true, false, not, cond, List, [], ◌∷◌, ◌++◌, length, map, get_or, take, ltb, refl, sym, ap, subst, ◌∙◌, append_assoc, arith}
use Rattle.std.specs.List.{flat_map, count_by, list_any}
use Rattle.std.proofs.lemmas.List.{take_more, take_all, length-take, append-nil}
use Rattle.std.proofs.lemmas.Grind.{flat_map-append}
use Rattle.std.proofs.lemmas.List.Sums.{count_by_more_no, count_by_more_yes, count_by-le-length, sum_by-append}
use Rattle.std.proofs.lemmas.Bool.{lt-ltb}
use Rattle.thin_form.specs.Formula.{Formula}
use Rattle.thin_form.specs.Design.{Flop, Kind, Input, Register, Source, Design, kind_at, name_at}
use Rattle.thin_form.specs.Netlist as nets
use Rattle.thin_form.specs.Netlist.{Netlist, formula_at, formulas, flop_of, kind_of, design_of}
use Rattle.thin_form.proofs.DesignOf.{kind_at-design_of}
use Rattle.thin_form.specs.declared.kind.Kind as code_kind
use Rattle.thin_form.specs.declared.kind.Kind.TheVariants as code_kinds
use Rattle.thin_form.specs.declared.kind.Flop as code_flop
use Rattle.thin_cons.specs.declared.role.Role.{Role}
use Rattle.rdcsign.specs.Verdict.{is_same, is_same_edge, is_crossing, crosses}
use Rattle.rdcsign.specs.Origin.{origin_of, allows}
use Rattle.rdcsign.specs.declared.origin.Origin.{Origin}
use Rattle.rdcsign.proofs.FormulaLemmas.{allowed}
use Rattle.rdcsign.specs.Report.{report, edge_of, edge_line, heading_lines, counts_line, verdict_line}
use Rattle.rdcsign.specs.Draft.{Front, AddsSource, AddsSources, source_at, plus}

-- what stands past the end of a design
abbrev nothing : Source
nothing = record { name = []; kind = Input }

-- the source at a place of a list
abbrev standing : List Source → ℕ → Source
standing ss n = record { name = get_or (map (λ s. s.name) ss) n []; kind = get_or (map (λ s. s.kind) ss) n Input }

source_at_is : (ss : List Source) (n : ℕ) → get_or ss n nothing ≡ standing ss n
source_at_is [] n = refl
source_at_is (s ∷ ss) zero = refl
source_at_is (s ∷ ss) (suc n) = source_at_is ss n

count_more : (p : Source → Bool) (d : List Source) (n : ℕ) → n < length d → count_by p (take (n + 1) d) ≡ plus (p (standing d n)) (count_by p (take n d))
count_more p d n lt = counted (p (standing d n)) refl where
  counted : (b : Bool) → p (standing d n) ≡ b → count_by p (take (n + 1) d) ≡ plus (p (standing d n)) (count_by p (take n d))
  counted true is = count_by_more_yes p d n nothing lt (ap p (source_at_is d n) ∙ is) ∙ rw is refl
  counted false is = count_by_more_no p d n nothing lt (ap p (source_at_is d n) ∙ is) ∙ rw is refl

lines_more : (f : Source → List ℕ) (d : List Source) (n : ℕ) → n < length d → flat_map f (take (n + 1) d) ≡ flat_map f (take n d) ++ f (standing d n)
lines_more f d n lt = ap (flat_map f) (take_more d n nothing lt) ∙ flat_map-append f (take n d) (get_or d n nothing ∷ []) ∙ ap (λ (s : Source). flat_map f (take n d) ++ flat_map f (s ∷ [])) (source_at_is d n) ∙ ap (λ (t : List ℕ). flat_map f (take n d) ++ t) (append-nil (f (standing d n)))

-- a report with one more source
pub sources_more : (d : Design) (roles : List Role) (n : ℕ) (heading : List ℕ) (old new : Front) → n < length d.sources → AddsSources d roles (take n d.sources) heading old → AddsSource d roles (source_at d n) old new
    → AddsSources d roles (take (n + 1) d.sources) heading new
sources_more d roles n heading old new lt before one = record {
  text = one.text ∙ ap (λ (t : List ℕ). t ++ edge_of d roles (source_at d n)) before.text ∙ append_assoc heading (flat_map (edge_of d roles) (take n d.sources)) (edge_of d roles (source_at d n))
      ∙ ap (λ (t : List ℕ). heading ++ t) (sym (lines_more (edge_of d roles) d.sources n lt));
  same = one.same ∙ ap (plus (is_same_edge d roles (kind_at d n))) before.same ∙ sym (count_more (λ s. is_same_edge d roles s.kind) d.sources n lt);
  crossing = one.crossing ∙ ap (plus (is_crossing d roles (kind_at d n))) before.crossing ∙ sym (count_more (λ s. is_crossing d roles s.kind) d.sources n lt);
}

pub sources_none : (d : Design) (roles : List Role) (front : Front) → front.same ≡ 0 → front.crossing ≡ 0 → AddsSources d roles (take 0 d.sources) front.text front
sources_none d roles front same crossing = record { text = sym (append-nil front.text); same = same; crossing = crossing }

pub sources_all : (d : Design) (roles : List Role) (n : ℕ) (heading : List ℕ) (front : Front) → length d.sources ≤ n → AddsSources d roles (take n d.sources) heading front → AddsSources d roles d.sources heading front
sources_all d roles n heading front all before = let e = take_all n d.sources all in record {
  text = before.text ∙ ap (λ (ss : List Source). heading ++ flat_map (edge_of d roles) ss) e;
  same = before.same ∙ ap (count_by (λ s. is_same_edge d roles s.kind)) e;
  crossing = before.crossing ∙ ap (count_by (λ s. is_crossing d roles s.kind)) e;
}

-- no more edges are counted than there were sources
pub same_le : (d : Design) (roles : List Role) (n : ℕ) (heading : List ℕ) (front : Front) → AddsSources d roles (take n d.sources) heading front → front.same ≤ n
same_le d roles n heading front before = omega (arith, before.same, count_by-le-length (λ s. is_same_edge d roles s.kind) (take n d.sources), length-take n d.sources)

pub crossing_le : (d : Design) (roles : List Role) (n : ℕ) (heading : List ℕ) (front : Front) → AddsSources d roles (take n d.sources) heading front → front.crossing ≤ n
crossing_le d roles n heading front before = omega (arith, before.crossing, count_by-le-length (λ s. is_crossing d roles s.kind) (take n d.sources), length-take n d.sources)

zeros : (n : ℕ) → (0 + 0) + n ≡ n
zeros n = omega arith

count_cons : (p : Source → Bool) (s : Source) (ss : List Source) → count_by p (s ∷ ss) ≡ (0 + cond (p s) 1 0) + count_by p ss
count_cons p s ss = sum_by-append (λ x. cond (p x) 1 0) (s ∷ []) ss

-- some element passes exactly where one is counted
any_is_counted : (p : Source → Bool) (ss : List Source) → ltb 0 (count_by p ss) ≡ list_any p ss
any_is_counted p [] = refl
any_is_counted p (s ∷ ss) = case_of (any_is_counted p ss) (p s) refl where
  case_of : ltb 0 (count_by p ss) ≡ list_any p ss → (b : Bool) → p s ≡ b → ltb 0 (count_by p (s ∷ ss)) ≡ list_any p (s ∷ ss)
  case_of rest true is = ap (ltb 0) (count_cons p s ss) ∙ rw is (lt-ltb 0 ((0 + 1) + count_by p ss) (omega arith))
  case_of rest false is = ap (ltb 0) (count_cons p s ss) ∙ rw is (ap (ltb 0) (zeros (count_by p ss)) ∙ rest)

pub crosses_is_counted : (d : Design) (roles : List Role) (heading : List ℕ) (front : Front) → AddsSources d roles d.sources heading front → ltb 0 front.crossing ≡ crosses d roles
crosses_is_counted d roles heading front all = ap (ltb 0) all.crossing ∙ any_is_counted (λ s. is_crossing d roles s.kind) d.sources

regroup : (h e c v : List ℕ) → ((h ++ e) ++ c) ++ v ≡ h ++ (e ++ (c ++ v))
regroup h e c v = simp append_assoc

-- the parts of a report, in their order, are the report
pub report_is : (top : List ℕ) (d : Design) (roles : List Role) (begun counted whole : List ℕ) (front : Front) → begun ≡ heading_lines top → AddsSources d roles d.sources begun front
    → counted ≡ front.text ++ counts_line front.same front.crossing → whole ≡ counted ++ verdict_line (ltb 0 front.crossing) → whole ≡ report top d roles
report_is top d roles begun counted whole front b all c w =
    let edges = flat_map (edge_of d roles) d.sources in
    let text-is : front.text ≡ heading_lines top ++ edges = all.text ∙ ap (λ (t : List ℕ). t ++ edges) b in
    let counts-is : counts_line front.same front.crossing ≡ counts_line (count_by (λ s. is_same_edge d roles s.kind) d.sources) (count_by (λ s. is_crossing d roles s.kind) d.sources) =
    ap (λ (n : ℕ). counts_line n front.crossing) all.same ∙ ap (counts_line (count_by (λ s. is_same_edge d roles s.kind) d.sources)) all.crossing in
    let verdict-is : verdict_line (ltb 0 front.crossing) ≡ verdict_line (crosses d roles) = ap verdict_line (crosses_is_counted d roles begun front all) in
    w ∙ ap (λ (t : List ℕ). t ++ verdict_line (ltb 0 front.crossing)) (c ∙ ap (λ (t : List ℕ). t ++ counts_line front.same front.crossing) text-is)
    ∙ regroup (heading_lines top) edges (counts_line front.same front.crossing) (verdict_line (ltb 0 front.crossing))
    ∙ ap (λ (t : List ℕ). heading_lines top ++ (edges ++ (t ++ verdict_line (ltb 0 front.crossing)))) counts-is
    ∙ ap (λ (t : List ℕ). heading_lines top ++ (edges ++ (counts_line (count_by (λ s. is_same_edge d roles s.kind) d.sources) (count_by (λ s. is_crossing d roles s.kind) d.sources) ++ t))) verdict-is

-- ---- one source

-- what a source of this kind brings, source n brings
with_kind : (d : Design) (roles : List Role) (n : ℕ) (k : Kind) (old new : Front) → kind_at d n ≡ k → AddsSource d roles (record { name = name_at d n; kind = k }) old new → AddsSource d roles (source_at d n) old new
with_kind d roles n k old new kind adds = subst (λ x. AddsSource d roles (record { name = name_at d n; kind = x }) old new) (sym kind) adds

-- an input brings nothing
pub adds_none : (d : Design) (roles : List Role) (n : ℕ) (front : Front) → kind_at d n ≡ Input → AddsSource d roles (source_at d n) front front
adds_none d roles n front kind = with_kind d roles n Input front front kind (record { text = sym (append-nil front.text); same = refl; crossing = refl })

-- a flop whose edge is the same is counted
pub adds_same : (d : Design) (roles : List Role) (n : ℕ) (f : Flop) (old new : Front) → kind_at d n ≡ Register f → is_same d roles f ≡ true → new.text ≡ old.text → new.same ≡ old.same + 1 → new.crossing ≡ old.crossing
    → AddsSource d roles (source_at d n) old new
adds_same d roles n f old new kind same text counted crossing = with_kind d roles n (Register f) old new kind (record {
  text = text ∙ sym (append-nil old.text) ∙ ap (λ b. old.text ++ cond (not b) (edge_line (name_at d n)) []) (sym same);
  same = counted ∙ ap (λ b. plus b old.same) (sym same);
  crossing = crossing ∙ ap (λ b. plus (not b) old.crossing) (sym same);
})

-- a flop whose edge crosses is counted, and has a line
pub adds_crossing : (d : Design) (roles : List Role) (n : ℕ) (f : Flop) (old new : Front) → kind_at d n ≡ Register f → is_same d roles f ≡ false → new.text ≡ old.text ++ edge_line (name_at d n) → new.same ≡ old.same
    → new.crossing ≡ old.crossing + 1 → AddsSource d roles (source_at d n) old new
adds_crossing d roles n f old new kind other text same counted = with_kind d roles n (Register f) old new kind (record {
  text = text ∙ ap (λ b. old.text ++ cond (not b) (edge_line (name_at d n)) []) (sym other);
  same = same ∙ ap (λ b. plus b old.same) (sym other);
  crossing = counted ∙ ap (λ b. plus (not b) old.crossing) (sym other);
})

-- what is answered of a flop is whether its edge is the same
pub edge_answered : (d : Design) (roles : List Role) (fs : List Formula) (f : code_flop.Flop) (origin : Origin) (answer : Bool) → answer ≡ allows (flop_of fs f) origin → origin ≡ origin_of d roles (formula_at fs f.«data»)
    → is_same d roles (flop_of fs f) ≡ answer
edge_answered d roles fs f origin answer answered is = sym (answered ∙ ap (allows (flop_of fs f)) is ∙ allowed d roles (flop_of fs f) (formula_at fs f.«data»))

-- a kind that is no register's is an input's
pub input_unless : (net : Netlist) (n : ℕ) (k : code_kind.Kind) → k ≡ nets.kind_at net n → ((f : code_flop.Flop) → k ≡ code_kinds.Register f → ⊥) → kind_at (design_of net) n ≡ Input
input_unless net n k is other = kind_at-design_of net n ∙ ap (kind_of (formulas net.nodes)) (sym is) ∙ input k other where
  input : (j : code_kind.Kind) → ((f : code_flop.Flop) → j ≡ code_kinds.Register f → ⊥) → kind_of (formulas net.nodes) j ≡ Input
  input code_kinds.Input other = refl
  input (code_kinds.Register f) other = absurd (other f refl)

-- a register of the netlist is one of the design
pub register_at : (net : Netlist) (n : ℕ) (k : code_kind.Kind) (f : code_flop.Flop) → k ≡ nets.kind_at net n → k ≡ code_kinds.Register f → kind_at (design_of net) n ≡ Register (flop_of (formulas net.nodes) f)
register_at net n k f is reg = kind_at-design_of net n ∙ ap (kind_of (formulas net.nodes)) (sym is ∙ reg)
