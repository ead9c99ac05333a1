use Rattle.std.proofs.Common.{List, String, Global, subst}
use Rattle.rdcsign.specs.Request.{seen, texts}
use Rattle.rdcsign.specs.Outcome.{refused}
use Rattle.rdcsign.specs.Faults.{faulty}
use Rattle.rdcsign.specs.Ends.{IsOrMemory}
use Rattle.rdcsign.specs.Answers.{outcome_of}
use Rattle.rdcsign.proofs.FrontLemmas.{ends_faulty, ends_judged, flat_small}
use Rattle.rdcsign.proofs.checking.judge_text.Goals as goal

pub judge_flat-requires : goal.judge_flat-requires
judge_flat-requires c = flat_small (seen c.args.request.now).top c.args.text.now c.in-Ok.flat c.in-Ok.ensures

pub returns-in-Err : goal.returns-in-Err
returns-in-Err c =
    ends_faulty (seen c.args.request.now) c.args.constraints.now c.args.text.now (refused c.faulty.result) c.in-Err.fault c.in-Err.ensures
    (subst (λ (files : List (String Global)). IsOrMemory (refused c.faulty.result) (faulty (texts files) c.in-Err.fault)) c.as_slice.ensures c.faulty.ensures)

pub returns-in-Ok : goal.returns-in-Ok
returns-in-Ok c = ends_judged (seen c.args.request.now) c.args.constraints.now c.args.text.now (outcome_of c.judge_flat.result) c.in-Ok.flat c.in-Ok.ensures c.judge_flat.ensures
