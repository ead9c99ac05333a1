-- What a report in the making has of the sources that were looked at.
use Rattle.std.specs.Prelude.{◌≡◌, ℕ, ◌+◌, Bool, if◌then◌else◌, List, ◌++◌, count_by}
use Rattle.std.specs.List.{flat_map}
use Rattle.thin_form.specs.Design.{Source, Design, name_at, kind_at}
use Rattle.thin_cons.specs.declared.role.Role.{Role}
use Rattle.rdcsign.specs.Verdict.{is_same_edge, is_crossing}
use Rattle.rdcsign.specs.Report.{edge_of}

-- a report in the making: its text, and how many edges were found the same and crossing
pub record Front : Type 0 where
  pub text : List ℕ
  pub same : ℕ
  pub crossing : ℕ

-- source n of a design
abbrev pub source_at : Design → ℕ → Source
source_at design n = record { name = name_at design n; kind = kind_at design n }

-- one more if the test passes
abbrev pub plus : Bool → ℕ → ℕ
plus passes n = if passes then n + 1 else n

-- the report with what a further source brings
pub record AddsSource (design : Design) (roles : List Role) (s : Source) (old new : Front) : Type 0 where
  pub text : new.text ≡ old.text ++ edge_of design roles s
  pub same : new.same ≡ plus (is_same_edge design roles s.kind) old.same
  pub crossing : new.crossing ≡ plus (is_crossing design roles s.kind) old.crossing

-- the report that began with a heading, with what these sources bring
pub record AddsSources (design : Design) (roles : List Role) (sources : List Source) (heading : List ℕ) (front : Front) : Type 0 where
  pub text : front.text ≡ heading ++ flat_map (edge_of design roles) sources
  pub same : front.same ≡ count_by (λ s. is_same_edge design roles s.kind) sources
  pub crossing : front.crossing ≡ count_by (λ s. is_crossing design roles s.kind) sources
