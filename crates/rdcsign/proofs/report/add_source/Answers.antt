use Rattle.std.proofs.Common.{◌≡◌, ◌++◌, ℕ, ◌+◌, ◌<◌, length, Bool, sym, ap, ◌∙◌, arith}
use Rattle.thin_form.specs.Design.{name_at}
use Rattle.thin_form.specs.Netlist.{formulas, flop_of, formula_at, design_of}
use Rattle.thin_form.proofs.DesignOf.{name_at-design_of, mapped_at, mapped_len}
use Rattle.rdcsign.specs.Draft.{Front}
use Rattle.rdcsign.specs.Report.{edge_line}
use Rattle.rdcsign.specs.Verdict.{is_same}
use Rattle.rdcsign.specs.Origin.{origin_of}
use Rattle.rdcsign.proofs.DraftLemmas.{adds_none, adds_same, adds_crossing, edge_answered, input_unless, register_at}
use Rattle.rdcsign.proofs.report.add_source.Goals as goal

pub index-requires : goal.index-requires
index-requires c =
    let net = c.args.traced.now.design.now in
    let flop = c.requires.lawful.flops c.args.n c.in-Register.flop (sym c.kind.ensures ∙ c.in-Register.is) in
    omega (arith, flop.«data», mapped_len (origin_of (design_of net) c.args.traced.now.roles.now) net.nodes c.args.traced.now.origins.items c.args.traced.now.traced, c.args.traced.now.origins.ok)

pub returns-in_default : goal.returns-in_default
returns-in_default c =
    adds_none (design_of c.args.traced.now.design.now) c.args.traced.now.roles.now c.args.n c.args.draft.now (input_unless c.args.traced.now.design.now c.args.n c.kind.result c.kind.ensures c.in_default.not-Register)

pub returns-then-is_same_edge : goal.returns-then-is_same_edge
returns-then-is_same_edge c =
    let net = c.args.traced.now.design.now in
    let fs = formulas net.nodes in
    let d = design_of net in
    let roles = c.args.traced.now.roles.now in
    let flop = c.in-Register.flop in
    let inside = (c.requires.lawful.flops c.args.n flop (sym c.kind.ensures ∙ c.in-Register.is)).«data» in
    let within : flop.«data» < length c.args.traced.now.origins.items = omega (arith, inside, mapped_len (origin_of d roles) net.nodes c.args.traced.now.origins.items c.args.traced.now.traced) in
    let origin = c.index.ensures ∙ mapped_at (origin_of d roles) fs c.args.traced.now.origins.items flop.«data» c.index.result.now c.args.traced.now.traced within in
    let same = edge_answered d roles fs flop c.index.result.now c.is_same_edge.result (c.is_same_edge.ensures fs) origin ∙ c.if-is_same_edge.true in
    adds_same d roles c.args.n (flop_of fs flop) c.args.draft.now _ (register_at net c.args.n c.kind.result flop c.kind.ensures c.in-Register.is) same
    (ap (λ (x : Front). x.text) c.draft.view_is) (ap (λ (x : Front). x.same + 1) c.draft.view_is) (ap (λ (x : Front). x.crossing) c.draft.view_is)

pub returns : goal.returns
returns c =
    let net = c.args.traced.now.design.now in
    let fs = formulas net.nodes in
    let d = design_of net in
    let roles = c.args.traced.now.roles.now in
    let flop = c.in-Register.flop in
    let inside = (c.requires.lawful.flops c.args.n flop (sym c.kind.ensures ∙ c.in-Register.is)).«data» in
    let within : flop.«data» < length c.args.traced.now.origins.items = omega (arith, inside, mapped_len (origin_of d roles) net.nodes c.args.traced.now.origins.items c.args.traced.now.traced) in
    let origin = c.index.ensures ∙ mapped_at (origin_of d roles) fs c.args.traced.now.origins.items flop.«data» c.index.result.now c.args.traced.now.traced within in
    let crossing = edge_answered d roles fs flop c.index.result.now c.is_same_edge.result (c.is_same_edge.ensures fs) origin ∙ c.if-is_same_edge.false in
    let line : c.put_edge.new.text.items ≡ c.args.draft.now.text ++ edge_line (name_at d c.args.n) =
    c.in_ok-put_edge.ensures ∙ ap (λ (x : Front). x.text ++ edge_line c.name.result.now) c.draft.view_is ∙ ap (λ name. c.args.draft.now.text ++ edge_line name) (c.name.ensures ∙ sym (name_at-design_of net c.args.n)) in
    adds_crossing d roles c.args.n (flop_of fs flop) c.args.draft.now _ (register_at net c.args.n c.kind.result flop c.kind.ensures c.in-Register.is) crossing
    line (ap (λ (x : Front). x.same) c.draft.view_is) (ap (λ (x : Front). x.crossing + 1) c.draft.view_is)
