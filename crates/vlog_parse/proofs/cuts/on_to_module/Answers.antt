use Rattle.std.proofs.Common.{length, sym, ap, ◌∙◌, arith}
use Rattle.vlog_parse.specs.Cuts.{from_module}
use Rattle.vlog_parse.proofs.CutLemmas.{passed, stays}
use Rattle.vlog_parse.proofs.cuts.on_to_module.Goals as goal

pub tokens-smaller : goal.tokens-smaller
tokens-smaller c = let p = passed c.tokens.cursor (sym c.is_inside.ensures ∙ c.tokens-test.true) in let less = p.1 in omega (arith, ap length c.advance.ensures)

pub tokens-preserved : goal.tokens-preserved
tokens-preserved c = let p = passed c.tokens.cursor (sym c.is_inside.ensures ∙ c.tokens-test.true) in ap from_module c.advance.ensures ∙ (p.0 ∙ c.tokens.invariant)

pub returns : goal.returns
returns c = sym (stays c.tokens.cursor (sym c.is_inside.ensures ∙ c.tokens-test.false)) ∙ c.tokens.invariant
