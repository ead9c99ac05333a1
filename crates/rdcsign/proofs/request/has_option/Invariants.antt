use Rattle.std.proofs.Common.{◌≡◌, drop}
use Rattle.std.specs.List.{list_any}
use Rattle.rdcsign.specs.Request.{texts, has_dash}
use Rattle.rdcsign.proofs.request.has_option.Given as goal

-- what is left decides the whole
abbrev pub invariant-loop-word : goal.invariant-loop-word
invariant-loop-word l = list_any has_dash (texts (drop l.word-index l.words)) ≡ list_any has_dash (texts l.words)
