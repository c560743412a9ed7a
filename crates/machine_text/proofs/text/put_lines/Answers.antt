use Rattle.std.proofs.Common.{◌<◌, ◌∙◌, ap, ◌++◌, sym, append_assoc, take, take_all, map, get_or, subst, ◌≡◌}
use Rattle.machine_text.proofs.Vocabulary.{All, written, written_line, heads, count_row, numbers_of}
use Rattle.machine_text.specs.declared.head.Head.TheVariants.{Teramac}
use Rattle.machine_text.proofs.GrammarLemmas.{written_more, all_more}
use Rattle.machine_text.proofs.text.put_lines.Goals as goal

pub heads-preserved : goal.heads-preserved
heads-preserved c =
    let line = written_line (count_row c.args.said.now (get_or heads c.heads.head-index Teramac)) in
    record {
      put =
          c.in_ok-put_line.ensures.put
          ∙ ap (λ bs. bs ++ line) c.heads.invariant.put
          ∙ append_assoc c.args.text.now.items (written (map (count_row c.args.said.now) (take c.heads.head-index heads))) line
          ∙ ap (λ bs. c.args.text.now.items ++ bs) (sym (written_more c.args.said.now heads c.heads.head-index Teramac c.heads-test.true));
      small = all_more (λ h. All (λ n. n < 65536) (numbers_of c.args.said.now h)) heads c.heads.head-index Teramac c.heads-test.true c.heads.invariant.small c.put_line.ensures.small;
    }

pub returns-clause-small : goal.returns-clause-small
returns-clause-small c =
    let whole : take c.heads.head-index heads ≡ heads = take_all c.heads.head-index heads c.heads-test.false in
    subst (All (λ h. All (λ n. n < 65536) (numbers_of c.args.said.now h))) whole c.heads.invariant.small
