use Rattle.std.proofs.Common.{ℕ, List, Option, subst}
use Rattle.vlog_const.specs.declared.answer.ConstValue.{ConstValue}
use Rattle.vlog_const.specs.Names.{no_values}
use Rattle.vlog_const.specs.Constants.{value_in}
use Rattle.design_form.specs.Extents.{shape_of}
use Rattle.net_exprs.specs.Constants.{IsValue}
use Rattle.net_exprs.proofs.ValueSteps.{value_constant, none_constant}
use Rattle.net_words.specs.Builds.{Build, Builds}
use Rattle.net_exprs.proofs.constants.computed.Goals as goal

pub returns-in-Some-clause-builds : goal.returns-in-Some-clause-builds
returns-in-Some-clause-builds c =
    subst (λ (b : Build (List ℕ)). Builds (λ w. w.items) b c.args.net.now c.constant.result c.constant.new.net)
    (value_constant c.args.context.width _ c.in-Some.value (subst (λ (o : Option ConstValue). IsValue o (value_in no_values (shape_of c.args.context) c.args.e.now)) c.in-Some.is c.in_ok-value.ensures.value)) c.constant.ensures.builds

pub returns-in-None-clause-builds : goal.returns-in-None-clause-builds
returns-in-None-clause-builds c =
    subst (λ (b : Build (List ℕ)). Builds (λ w. w.items) b c.args.net.now c.constant-in-None.result c.constant-in-None.new.net)
    (none_constant c.args.context.width _ (subst (λ (o : Option ConstValue). IsValue o (value_in no_values (shape_of c.args.context) c.args.e.now)) c.in-None.is c.in_ok-value.ensures.value)) c.constant-in-None.ensures.builds
