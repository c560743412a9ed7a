use Rattle.std.proofs.Common.{◌≡◌, ◌+◌, ◌∙◌, ◌++◌, ◌∷◌, [], ap, sym, subst, length, get_or}
use Rattle.design_flatten.proofs.Vocabulary.{length_push, fold-append, with_text, texts_of, IsOrigin, AreWays, step_to}
use Rattle.design_flatten.proofs.PrintLemmas.{ways_more}
use Rattle.design_flatten.proofs.printed.ways_of.Goals as goal

pub origins-preserved : goal.origins-preserved
origins-preserved c =
    let bs = c.origins.ways.items in
    let ts = texts_of bs in
    let k = c.origins.used in
    let o = c.index-origins-used.result in
    let e : texts_of c.push.new.self.items ≡ ts ++ (get_or ts o.within [] ++ step_to k o.place) ∷ [] =
    ap texts_of c.in_ok-push.ensures.items
    ∙ fold-append with_text [] bs (record { before = o.within; text = c.in_ok-step_to.field-0 } ∷ [])
    ∙ ap (λ t. ts ++ (get_or ts o.within [] ++ t) ∷ []) c.in_ok-step_to.ensures in
    record {
      len = ap length e ∙ length_push ts (get_or ts o.within [] ++ step_to k o.place) ∙ ap (λ n. n + 1) c.origins.invariant.len;
      ways = λ ms h. subst (AreWays ms (k + 1)) (sym e)
          (ways_more ms k ts o c.origins.invariant.len (subst (IsOrigin ms k) (sym c.index-origins-used.is) (h k o c.origins-test.true)) (c.origins.invariant.ways ms h));
    }
