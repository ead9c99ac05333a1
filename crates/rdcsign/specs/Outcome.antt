-- How a call ends, what it then says, and with which status.
--     Outcome      the ways in which a call ends
--     text_of, status_of      what is written, and the status where all of it is
--     cut_status      the status where the sink fails while it is written
--     Says      what is on the sink after the call
use Rattle.std.specs.Prelude.{◌≡◌, ℕ, Bool, true, false, if◌then◌else◌, List, ◌++◌, Option, codes}
use Rattle.rdc_outside.specs.Counts.{Rose}
use Rattle.rdc_outside.specs.Sink.{written_with}
use Rattle.rdc_outside.specs.declared.outcome.Status.{Status}
use Rattle.rdc_outside.specs.declared.outcome.Status.TheVariants as statuses
use Rattle.rdcsign.specs.Report.{line}
use Rattle.rdcsign.specs.declared.refusal.Name.{Name}
use Rattle.rdcsign.specs.declared.refusal.Name.TheVariants as names
use Rattle.rdcsign.specs.declared.refusal.Refusal.{Refusal}
use Rattle.rdcsign.specs.declared.refusal.Refusal.TheVariants as refusals

-- how a call ends
pub data Outcome : Type 0 where
  -- the words ask for nothing
  Usage : Outcome
  -- a file is missing
  Absent : (name : List ℕ) → Outcome
  -- the shelf fails at a load
  Read : (name : List ℕ) → Outcome
  -- the source is faulty: what is said of it
  Source : (details : List ℕ) → Outcome
  -- a file is not of the form that is built
  NotYet : (name : List ℕ) → Outcome
  -- memory ran out
  Memory : Outcome
  -- the design is judged
  Judged : (report : List ℕ) (crossing : Bool) → Outcome

-- what is written: one line, or the report
abbrev pub text_of : Outcome → List ℕ
text_of Usage = line (codes "refused usage")
text_of (Absent name) = line (codes "refused absent " ++ name)
text_of (Read name) = line (codes "refused read " ++ name)
text_of (Source details) = line (codes "refused source " ++ details)
text_of (NotYet name) = line (codes "refused notyet " ++ name)
text_of Memory = line (codes "refused memory")
text_of (Judged report crossing) = report

-- the status, where all of it is written
abbrev pub status_of : Outcome → Status
status_of Usage = statuses.Usage
status_of (Absent name) = statuses.Absent
status_of (Read name) = statuses.Read
status_of (Source details) = statuses.Source
status_of (NotYet name) = statuses.NotYet
status_of Memory = statuses.Memory
status_of (Judged report crossing) = if crossing then statuses.Hazard else statuses.Clean

-- the status, where the sink fails: that of a refusal stands
abbrev pub cut_status : Outcome → Status
cut_status Usage = statuses.Usage
cut_status (Absent name) = statuses.Absent
cut_status (Read name) = statuses.Read
cut_status (Source details) = statuses.Source
cut_status (NotYet name) = statuses.NotYet
cut_status Memory = statuses.Memory
cut_status (Judged report crossing) = statuses.Write

-- the first bytes of a text
abbrev pub IsFront : List ℕ → List ℕ → Type 0
IsFront part text = (rest : List ℕ) × (text ≡ part ++ rest)

-- a front of the text is on the sink, which failed
pub record IsCut (text : List ℕ) (old new : Option (List ℕ)) (faults faults' : ℕ) : Type 0 where
  pub part : List ℕ
  pub front : IsFront part text
  pub written : new ≡ written_with old part
  pub failed : Rose faults faults'

-- the text is on the sink, or a front of it
abbrev pub Puts : List ℕ → Bool → Option (List ℕ) → Option (List ℕ) → ℕ → ℕ → Type 0
Puts text true old new faults faults' = new ≡ written_with old text
Puts text false old new faults faults' = IsCut text old new faults faults'

-- what a call leaves on the sink, and with which status: all of the outcome's text, or a front of it where the sink failed
pub record Says (outcome : Outcome) (status : Status) (old new : Option (List ℕ)) (faults faults' : ℕ) : Type 0 where
  pub whole : Bool
  pub text : Puts (text_of outcome) whole old new faults faults'
  pub status_is : status ≡ (if whole then status_of outcome else cut_status outcome)

-- a name, without where it lies in memory
abbrev pub name_of : Name → List ℕ
name_of (names.Asked name) = name.now
name_of (names.Met name) = name

-- a refusal, without where its names lie in memory
abbrev pub refused : Refusal → Outcome
refused refusals.Usage = Usage
refused (refusals.Absent name) = Absent (name_of name)
refused (refusals.Read name) = Read (name_of name)
refused (refusals.Source details) = Source details.items
refused (refusals.NotYet name) = NotYet name.now
refused refusals.Memory = Memory
