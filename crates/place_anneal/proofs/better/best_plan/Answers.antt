use Rattle.std.proofs.Common.{◌≤◌, arith}
use Rattle.place_anneal.proofs.BetterLemmas.{found_fewer, found_laid}
use Rattle.place_anneal.proofs.better.best_plan.Goals as goal

pub fewest-most-requires : goal.fewest-most-requires
fewest-most-requires c = found_fewer c.args.defects.now.shape c.args.defects.now.list c.args.network.now c.args.plan.now c.args.before c.args.before c.in_ok-near.near c.requires.before (omega arith) c.in_ok-near.ensures

pub fewest-least-requires : goal.fewest-least-requires
fewest-least-requires c = found_fewer c.args.defects.now.shape c.args.defects.now.list c.args.network.now c.args.plan.now c.args.before c.fewest-most.result c.in_ok-filled.filled c.requires.before c.fewest-most.ensures c.in_ok-filled.ensures

pub returns-in-Some : goal.returns-in-Some
returns-in-Some c =
    let least : c.fewest-least.result ≤ c.args.before = (let most = c.fewest-most.ensures in let less = c.fewest-least.ensures in omega (arith, most, less)) in
    found_laid c.args.defects.now.shape c.args.defects.now.list c.args.network.now c.args.plan.now c.args.before c.fewest-least.result c.in_ok-chained.chained c.in-Some.better c.requires.before least c.in-Some.is c.in_ok-chained.ensures

pub returns-in-Some-filled : goal.returns-in-Some-filled
returns-in-Some-filled c =
    found_laid c.args.defects.now.shape c.args.defects.now.list c.args.network.now c.args.plan.now c.args.before c.fewest-most.result c.in_ok-filled.filled c.in-Some-filled.better c.requires.before c.fewest-most.ensures c.in-Some-filled.is c.in_ok-filled.ensures

pub returns-in-Some-near : goal.returns-in-Some-near
returns-in-Some-near c =
    found_laid c.args.defects.now.shape c.args.defects.now.list c.args.network.now c.args.plan.now c.args.before c.args.before c.in_ok-near.near c.in-Some-near.better c.requires.before (omega arith) c.in-Some-near.is c.in_ok-near.ensures
