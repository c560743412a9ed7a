use Rattle.rig_port.proofs.Vocabulary.{◌∙◌, sym, ap, On, Off}
use Rattle.rig_port.proofs.{Edited.one_edit, Settings.same_given}
use Rattle.rig_port.proofs.edits.give.Goals as goal

pub returns-then-is_same-clause-given : goal.returns-then-is_same-clause-given
returns-then-is_same-clause-given c =
    same_given c.args.set.now.config c.args.t.0 c.args.s (sym c.setting.ensures ∙ c.is_same.ensures c.if-is_same.true)

pub returns-in_ok-put_setting-in-Some-clause-made : goal.returns-in_ok-put_setting-in-Some-clause-made
returns-in_ok-put_setting-in-Some-clause-made c = one_edit (On c.args.t.0 c.in-Some.setting) c.args.set.now.config c.switch_on.new.self.config
    c.args.line.now.items c.put_setting.new.line.items (c.requires.within, c.put_setting.ensures.cells) c.in_ok-put_setting-in-Some.ensures.spelled
    (ap (λ r. r.config) c.switch_on.ensures)

pub returns-in_ok-put_word-in-None-clause-made : goal.returns-in_ok-put_word-in-None-clause-made
returns-in_ok-put_word-in-None-clause-made c = one_edit (Off c.args.t.0) c.args.set.now.config c.switch_off.new.self.config
    c.args.line.now.items c.put_word.new.line.items c.requires.within c.in_ok-put_word-in-None.ensures (ap (λ r. r.config) c.switch_off.ensures)
