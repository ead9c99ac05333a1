-- What is left of the statements and of the case items decides what all give.
use Rattle.std.proofs.Common.{◌≡◌, ◌++◌, drop}
use Rattle.std.specs.List.{flat_map}
use Rattle.design_form.specs.Extents.{shape_of}
use Rattle.design_sizes.specs.Sizes.{sized_statement}
use Rattle.design_sizes.specs.Lists.{all_sized, arm_parts}
use Rattle.design_sizes.proofs.statements.+statements.Given as goal

abbrev pub invariant-put_statements-loop-statement : goal.invariant-put_statements-loop-statement
invariant-put_statements-loop-statement l =
    all_sized l.out.items ++ flat_map (sized_statement l.design) (drop l.statement-index l.statements) ≡ all_sized l.fn.out.items ++ flat_map (sized_statement l.design) l.statements

abbrev pub invariant-put_arms-loop-arm : goal.invariant-put_arms-loop-arm
invariant-put_arms-loop-arm l = all_sized l.out.items ++ flat_map (arm_parts l.design (shape_of l.size)) (drop l.arm-index l.arms) ≡ all_sized l.fn.out.items ++ flat_map (arm_parts l.design (shape_of l.size)) l.arms
