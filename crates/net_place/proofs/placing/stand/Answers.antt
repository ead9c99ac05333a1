use Rattle.std.proofs.Common.{◌-◌, length, subst}
use Rattle.std.specs.Prelude.{slice_get}
use Rattle.net_place.specs.Ready.{ReadsPlaced}
use Rattle.net_place.proofs.Standing.{node_inside, leaf_inside}
use Rattle.net_place.proofs.placing.stand.Goals as goal

pub leaf-requires : goal.leaf-requires
leaf-requires c = (length c.args.net.now.gates, subst (ReadsPlaced (length c.args.net.now.gates) c.args.roots.now c.args.sources.now c.args.places.now) c.in-Source.is c.requires.reads)

pub add-requires-in-Not : goal.add-requires-in-Not
add-requires-in-Not c =
    let p = subst (ReadsPlaced (length c.args.net.now.gates) c.args.roots.now c.args.sources.now c.args.places.now) c.in-Not.is c.requires.reads in
    node_inside (length c.args.net.now.gates) c.args.places.now c.in-Not.a c.node_at.result p c.node_at.ensures

pub add-requires-in-And : goal.add-requires-in-And
add-requires-in-And c =
    let p = subst (ReadsPlaced (length c.args.net.now.gates) c.args.roots.now c.args.sources.now c.args.places.now) c.in-And.is c.requires.reads in (
      node_inside (length c.args.net.now.gates) c.args.places.now c.in-And.a c.node_at-in-And.result p.0 c.node_at-in-And.ensures,
      node_inside (length c.args.net.now.gates) c.args.places.now c.in-And.b c.node_at-in-And-2.result p.1 c.node_at-in-And-2.ensures,
    )

pub add-requires-in-Or : goal.add-requires-in-Or
add-requires-in-Or c =
    let p = subst (ReadsPlaced (length c.args.net.now.gates) c.args.roots.now c.args.sources.now c.args.places.now) c.in-Or.is c.requires.reads in (
      node_inside (length c.args.net.now.gates) c.args.places.now c.in-Or.a c.node_at-in-Or.result p.0 c.node_at-in-Or.ensures,
      node_inside (length c.args.net.now.gates) c.args.places.now c.in-Or.b c.node_at-in-Or-2.result p.1 c.node_at-in-Or-2.ensures,
    )

pub add-requires-in-Xor : goal.add-requires-in-Xor
add-requires-in-Xor c =
    let p = subst (ReadsPlaced (length c.args.net.now.gates) c.args.roots.now c.args.sources.now c.args.places.now) c.in-Xor.is c.requires.reads in (
      node_inside (length c.args.net.now.gates) c.args.places.now c.in-Xor.a c.node_at-in-Xor.result p.0 c.node_at-in-Xor.ensures,
      node_inside (length c.args.net.now.gates) c.args.places.now c.in-Xor.b c.node_at-in-Xor-2.result p.1 c.node_at-in-Xor-2.ensures,
    )

pub returns-in-Source-clause-inside : goal.returns-in-Source-clause-inside
returns-in-Source-clause-inside c =
    let p = subst (ReadsPlaced (length c.args.net.now.gates) c.args.roots.now c.args.sources.now c.args.places.now) c.in-Source.is c.requires.reads in
    leaf_inside (length c.args.net.now.gates) c.args.sources.now c.args.places.now (c.in-Source.b - length c.args.roots.now) (slice_get c.args.roots.now c.in-Source.b) c.leaf.result c.requires.sources p c.leaf.ensures
