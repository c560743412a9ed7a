use Rattle.std.proofs.Common.{◌≤◌, length, IsTrue, get_or}
use Rattle.std.specs.List.{All}
use Rattle.std.proofs.lemmas.List.{take_all, Elements.All-more}
use Rattle.design_netlist.specs.declared.netlist_data.Cover.{Cover}
use Rattle.map_network.specs.Plain.{is_narrow}
use Rattle.map_text.proofs.NameLemmas.{few-narrow}
use Rattle.map_text.proofs.check.have_few_inputs.Goals as goal

pub covers-preserved : goal.covers-preserved
covers-preserved c =
    let cover = get_or c.args.covers.now c.covers.k c.index-covers-k.result in
    let few : length cover.ins ≤ 6 = rw c.as_slice.ensures at c.if-as_slice-gt-TABLE_INPUTS.false in
    All-more (λ (x : Cover). IsTrue (is_narrow x)) c.args.covers.now c.covers.k c.index-covers-k.result c.covers-test.true
    c.covers.invariant (few-narrow cover few)

pub returns : goal.returns
returns c = λ yes. rw (take_all c.covers.k c.args.covers.now c.covers-test.false) at c.covers.invariant
