-- How the answer of the first stages ends the call.
use Rattle.std.proofs.Common.{◌≡◌, ℕ, List, [], Ok, Err, refl, inl}
use Rattle.rdc_outside.specs.declared.source.Text.{Text}
use Rattle.vlog_lex.specs.declared.fault.LexFault.TheVariants as lex
use Rattle.design_form.specs.declared.parts.Parts.{Parts}
use Rattle.front.specs.declared.fault.FrontFault.{FrontFault}
use Rattle.front.specs.declared.fault.FrontFault.TheVariants as front
use Rattle.front.specs.Stages.{Answers, lib_in}
use Rattle.thin_form.specs.Source.{IsSmall}
use Rattle.rdcsign.specs.Request.{Request, texts}
use Rattle.rdcsign.specs.Outcome.{Outcome}
use Rattle.rdcsign.specs.Faults.{faulty}
use Rattle.rdcsign.specs.Ends.{IsOrMemory, IsJudgement}
use Rattle.rdcsign.specs.Answers.{EndsText, no_tokens, no_modules, no_flat, judged}
use Rattle.rdcsign.proofs.SmallLemmas.{small}

-- the fault of the first stage that fails
pub ends_faulty : (r : Request) (constraints : List ℕ) (text : Text) (outcome : Outcome) (fault : FrontFault) → Answers text r.top [] (Err fault) → IsOrMemory outcome (faulty (texts text.files) fault) → EndsText r constraints text outcome
ends_faulty r constraints text outcome front.Memory a is = no_tokens lex.Memory (inl refl) is
ends_faulty r constraints text outcome (front.Lex fault) a is = no_tokens fault a is
ends_faulty r constraints text outcome (front.Parse fault) a is = no_modules a.0 fault a.1 a.2 is
ends_faulty r constraints text outcome (front.Elab fault) a is = no_flat a.0 a.1 a.2 a.3 (record { fault = fault; gives = a.4; outcome_is = is })

-- a flat design
pub ends_judged : (r : Request) (constraints : List ℕ) (text : Text) (outcome : Outcome) (flat : Parts) → Answers text r.top [] (Ok flat) → IsJudgement r constraints flat outcome → EndsText r constraints text outcome
ends_judged r constraints text outcome flat a is = judged a.0 a.1 flat a.2 a.3 a.4 is

pub flat_small : (top : List ℕ) (text : Text) (flat : Parts) → Answers text top [] (Ok flat) → IsSmall flat
flat_small top text flat a = small (lib_in a.1 []) top flat a.4
