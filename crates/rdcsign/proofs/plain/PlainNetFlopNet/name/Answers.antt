use Rattle.std.proofs.Common.{sym, ap, subst, ◌∙◌}
use Rattle.std.specs.Str.{IsUtf8}
use Rattle.rdcsign.proofs.PlainLemmas.{source_text, name_is, some_name}
use Rattle.rdcsign.proofs.plain.PlainNetFlopNet.name.Goals as goal

pub text-requires : goal.text-requires
text-requires c = subst IsUtf8 (sym c.name.ensures) (source_text c.args.self.now.design.now c.args.s.0 c.sources-sources.ensures.lawful c.requires)

pub returns : goal.returns
returns c = name_is c.args.self.now.design.now c.args.s.0 c.requires ∙ ap some_name (sym (c.text.ensures ∙ c.name.ensures))
