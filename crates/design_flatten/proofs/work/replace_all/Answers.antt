use Rattle.std.proofs.Common.{◌≡◌, ◌∙◌, ◌+◌, ◌-◌, ◌++◌, ◌∷◌, [], refl, ℕ, List, ap, sym, length, length-append, arith, subst, true}
use Rattle.design_flatten.proofs.Vocabulary.{err_from_is_err_and, Limit}
use Rattle.design_flatten.specs.Vocabulary.{IsSink, after, first_model, is_left, model_named, lines_at, without_ports, at_first, place_of, lean_models, way_to, left_in}
use Rattle.design_flatten.proofs.WorkLemmas.{starts, ended, refused, is_left_now, origin_is, replaced_more, all_placed, placed_none, placed_some, not_within, frames_push, frames_pop, frames_more, first_origin, origins_push}
use Rattle.design_flatten.proofs.LeanLemmas.{whole_design, whole_refused}
use Rattle.design_flatten.proofs.work.replace_all.Goals as goal

pub work-init : goal.work-init
work-init c =
    let ms = lean_models c.args.bodies.now.models.now in
    let first = c.first_frame-first.result in
    record {
      most = omega arith;
      sink = (
        [],
        c.requires.sink,
        rw (c.in_ok-push.ensures.items, c.new-stack.ensures.items) (starts ms first c.first_frame-first.ensures.used c.first_frame-first.ensures.lines),
      );
      frames = rw (c.in_ok-push.ensures.items, c.new-stack.ensures.items) (frames_push 0 [] first tt (omega (arith, c.first_frame-first.ensures.used)) (omega (arith, c.first_frame-first.ensures.uses)));
      count = c.requires.count;
      origins = c.requires.origins;
    }

pub work-preserved-in_default-2 : goal.work-preserved-in_default-2
work-preserved-in_default-2 c =
    let ms = lean_models c.args.bodies.now.models.now in
    let f = c.in-Some.frame in
    let way = way_to ms f.given.used in
    let old = c.work.invariant.sink in
    let put = c.in_ok-found.ensures.ok way (first_model ms).names old.0 old.1 in
    record {
      most = c.work.invariant.most;
      sink = (
        put.0,
        put.1,
        ended ms c.work.replaced old.0 c.pop.new.self.items f (rw c.in-Some.ensures.items at old.2) put.0 (placed_none way (c.work.replaced + 1) f old.0 put.0 c.in_ok-found.field-0 c.in_default-2.is put.2),
      );
      frames = (frames_pop c.work.replaced c.pop.new.self.items f (rw c.in-Some.ensures.items at c.work.invariant.frames)).0;
      count = c.work.invariant.count;
      origins = c.work.invariant.origins;
    }

pub returns-in_err-found-clause-refused : goal.returns-in_err-found-clause-refused
returns-in_err-found-clause-refused c =
    let p = err_from_is_err_and c.from_residual-in_err-found.result c.from_residual-in_err-found.ensures.1 in
    let ms = lean_models c.args.bodies.now.models.now in
    let f = c.in-Some.frame in
    let old = c.work.invariant.sink in
    rw (p.1, p.2) (whole_refused c.args.bodies.now.models.now c.in_err-found.field-0.0 (refused ms c.work.replaced old.0 c.pop.new.self.items f (rw c.in-Some.ensures.items at old.2) c.in_err-found.field-0.0 (c.in_err-found.ensures.refused (way_to ms f.given.used) (first_model ms).names old.0 old.1)))

pub returns-then-replaced-ge-MOST_REPLACED-clause-refused : goal.returns-then-replaced-ge-MOST_REPLACED-clause-refused
returns-then-replaced-ge-MOST_REPLACED-clause-refused c =
    let ms = lean_models c.args.bodies.now.models.now in
    let f = c.in-Some.frame in
    let way = way_to ms f.given.used in
    let old = c.work.invariant.sink in
    let put = c.in_ok-found.ensures.ok way (first_model ms).names old.0 old.1 in
    let u = placed_some way (c.work.replaced + 1) f old.0 put.0 c.in_ok-found.field-0 c.in-Some-2.found c.in-Some-2.is put.2 in
    let full : c.work.replaced ≡ 65535 = omega arith in
    let left = is_left_now ms c.work.replaced old.0 c.pop.new.self.items f (rw c.in-Some.ensures.items at old.2) put.0 c.in-Some-2.found u.0 u.1 put.1.none_left u.3 u.4 in
    whole_refused c.args.bodies.now.models.now Limit (not_within ms 65535 (subst (λ n. is_left (after ms n) ≡ true) full left))

pub overflow_add-frame : goal.overflow_add-frame
overflow_add-frame c =
    let uses = (frames_pop c.work.replaced c.pop.new.self.items c.in-Some.frame (rw c.in-Some.ensures.items at c.work.invariant.frames)).2 in
    omega (arith, uses, c.work.invariant.most)

pub work-preserved : goal.work-preserved
work-preserved c =
    let ms = lean_models c.args.bodies.now.models.now in
    let f = c.in-Some.frame in
    let way = way_to ms f.given.used in
    let old = c.work.invariant.sink in
    let put = c.in_ok-found.ensures.ok way (first_model ms).names old.0 old.1 in
    let u = placed_some way (c.work.replaced + 1) f old.0 put.0 c.in_ok-found.field-0 c.in-Some-2.found c.in-Some-2.is put.2 in
    let olds = frames_pop c.work.replaced c.pop.new.self.items f (rw c.in-Some.ensures.items at c.work.invariant.frames) in
    let k = c.work.replaced in
    let pops = c.pop.new.self.items in
    let placed = put.0 in
    let now = rw c.in-Some.ensures.items at old.2 in
    let none = put.1.none_left in
    let next = c.frame_of-next.result in
    let leads = origin_is ms k old.0 pops f now placed c.in-Some-2.found u.0 u.1 none u.3 u.4 in
    record {
      most = omega arith;
      sink = (
        put.0,
        put.1,
        rw (c.in_ok-push-4.ensures.items, c.in_ok-push-3.ensures.items) (replaced_more ms k old.0 pops f now placed c.in-Some-2.found u.0 u.1 none u.3 u.4 (record f { next = c.in-Some-2.found.next; uses = f.uses + 1 }) next refl c.frame_of-next.ensures.given u.2
            c.frame_of-next.ensures.lines),
      );
      frames = rw (c.in_ok-push-4.ensures.items, c.in_ok-push-3.ensures.items) (
          let all = frames_more k pops olds.0 in
          let used = olds.1 in
          let uses = olds.2 in
          let with_old = frames_push (k + 1) pops (record f { next = c.in-Some-2.found.next; uses = f.uses + 1 }) all (omega (arith, used)) (omega (arith, uses)) in
          frames_push (k + 1) (pops ++ record f { next = c.in-Some-2.found.next; uses = f.uses + 1 } ∷ []) next with_old
          (omega (arith, ap (λ g. g.used) c.frame_of-next.ensures.given, u.2))
          (omega (arith, c.frame_of-next.ensures.uses))
          );
      count = ap length c.in_ok-push-2.ensures.items ∙ length-append c.work.made.origins.items _ ∙ ap (λ n. n + 1) c.work.invariant.count;
      origins = rw c.in_ok-push-2.ensures.items (
          origins_push ms c.work.made.origins.items (record { names = next.names; within = f.given.used; place = f.uses }) k c.work.invariant.count c.work.invariant.origins
          (c.frame_of-next.ensures.names ∙ sym (ap (λ o. o.model.names) leads), olds.1, ap (λ o. o.way) leads)
          );
    }

pub returns-clause-ok : goal.returns-clause-ok
returns-clause-ok c =
    let ms = lean_models c.args.bodies.now.models.now in
    let last = c.work.invariant.sink in
    let count = c.work.invariant.count in
    let all = all_placed ms c.work.replaced last.0 c.work.stack.items last.1.none_left last.2 (omega (arith, rw c.in_default.is at c.pop.ensures.cases)) in
    let few : c.work.replaced ≡ length c.work.made.origins.items - 1 = omega (arith, count) in
    let same : last.0 ≡ after ms (length c.work.made.origins.items - 1) = all.reached ∙ ap (after ms) few in
    whole_design c.args.bodies.now.models.now _ (record {
      sink = subst (λ ls. IsSink (first_model ms).names ls c.work.made.sink) same last.1;
      most = omega (arith, count, c.work.invariant.most);
      substituted = record { reached = refl; none_left = sym (ap is_left same) ∙ all.none_left };
      count = omega (arith, count);
      origins = c.work.invariant.origins;
    })
