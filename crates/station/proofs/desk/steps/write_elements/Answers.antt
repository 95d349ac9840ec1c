use Rattle.std.proofs.Common.{sym, ap, ◌∙◌, arith}
use Rattle.std.proofs.lemmas.List.{ext_get_or, length-map}
use Rattle.station.specs.Desk.{element_of, elements}
use Rattle.script.specs.Grammar.{value, values}
use Rattle.station.proofs.desk.Elements.{named_at, one_more}
use Rattle.station.proofs.desk.steps.write_elements.Goals as goal

pub returns : goal.returns
returns g c =
    let m = g.F.Field in
    let tokens = c.args.tokens.now in
    let long = length-map (values tokens) (element_of m.ops m.finite) in
    ext_get_or m.ops.zero c.loop-i.xs (elements m.ops m.finite (values tokens)) (omega (arith, long, length-map tokens value))
    (λ k less. c.loop-i.invariant k (omega arith))

pub loop-i-preserved : goal.loop-i-preserved
loop-i-preserved g c =
    let m = g.F.Field in
    let tokens = c.args.tokens.now in
    let named = elements m.ops m.finite (values tokens) in
    one_more c.loop-i.xs named c.loop-i.i c.element_of.result m.ops.zero c.loop-i.invariant (omega (arith, c.loop-i.auto.xs, c.requires, c.loop-i-test.true))
    (c.element_of.ensures ∙ ap (element_of m.ops m.finite) c.value.ensures ∙ sym (named_at m.ops m.finite tokens c.loop-i.i _ m.ops.zero c.loop-i-test.true))
