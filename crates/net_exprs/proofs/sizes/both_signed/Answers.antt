use Rattle.std.proofs.Common.{false}
use Rattle.net_exprs.proofs.BitSteps.{sign_told}
use Rattle.net_exprs.proofs.sizes.both_signed.Goals as goal

pub returns-in-Contextual-clause-signed : goal.returns-in-Contextual-clause-signed
returns-in-Contextual-clause-signed c nodes shape x y = sign_told c.args.op false _ shape x y (λ k. let e = c.in-Contextual.is in let f = c.family.ensures in absurd cc)

pub returns-in-Leading-clause-signed : goal.returns-in-Leading-clause-signed
returns-in-Leading-clause-signed c nodes shape x y = sign_told c.args.op false _ shape x y (λ k. let e = c.in-Leading.is in let f = c.family.ensures in absurd cc)

pub returns-in-Alone-clause-signed : goal.returns-in-Alone-clause-signed
returns-in-Alone-clause-signed c nodes shape x y = sign_told c.args.op false _ shape x y (λ k. let e = c.in-Alone.is in let f = c.family.ensures in absurd cc)
