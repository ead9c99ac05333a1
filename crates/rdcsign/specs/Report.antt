-- The text of a report.
--     line text      a line of the report
--     edge_of design roles s      the line of a source whose edge crosses
--     report top design roles      the whole report
use Rattle.std.specs.Prelude.{ℕ, Bool, if◌then◌else◌, List, [], ◌∷◌, ◌++◌, codes, count_by}
use Rattle.std.specs.List.{flat_map}
use Rattle.std.specs.Fmt.{decimal}
use Rattle.thin_form.specs.Design.{Source, Design}
use Rattle.thin_cons.specs.declared.role.Role.{Role}
use Rattle.rdcsign.specs.Verdict.{is_same_edge, is_crossing, crosses}

-- a text and a line feed
abbrev pub line : List ℕ → List ℕ
line text = text ++ 10 ∷ []

-- edge NAME crossing, for a flop whose edge crosses
abbrev pub edge_line : List ℕ → List ℕ
edge_line name = line (codes "edge " ++ (name ++ codes " crossing"))

-- the line of a source, if its edge crosses
abbrev pub edge_of : Design → List Role → Source → List ℕ
edge_of design roles s = if is_crossing design roles s.kind then edge_line s.name else []

-- same N crossing N
abbrev pub counts_line : ℕ → ℕ → List ℕ
counts_line same crossing = line (codes "same " ++ (decimal same ++ (codes " crossing " ++ decimal crossing)))

-- the last word of the report
abbrev pub verdict_line : Bool → List ℕ
verdict_line crossing = if crossing then line (codes "verdict crossing") else line (codes "verdict clean")

-- the version of the format, and the module
abbrev pub heading_lines : List ℕ → List ℕ
heading_lines top = line (codes "rdc report 1") ++ line (codes "top " ++ top)

-- the version, the module, the edges that cross in name order, how many edges are the same and how many cross, and the verdict
abbrev pub report : List ℕ → Design → List Role → List ℕ
report top design roles =
    heading_lines top ++ (flat_map (edge_of design roles) design.sources
    ++ (counts_line (count_by (λ s. is_same_edge design roles s.kind) design.sources) (count_by (λ s. is_crossing design roles s.kind) design.sources)
    ++ verdict_line (crosses design roles)))
