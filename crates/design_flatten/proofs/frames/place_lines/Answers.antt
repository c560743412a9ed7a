use Rattle.std.proofs.Common.{◌≡◌, ◌<◌, ◌≤◌, ◌∙◌, ap, refl, sym, map, arith, ◌++◌, ◌∷◌, [], ◌+◌, length, append_assoc, false, get_or}
use Rattle.design_flatten.proofs.Vocabulary.{append-nil, err_from_is_err_and}
use Rattle.design_flatten.specs.Vocabulary.{place_of, is_use, pair_of, UsePart, line_in, part_in, with_pairs, lean_in, left_from, left_in, becomes, pair_through, through}
use Rattle.design_flatten.proofs.WorkLemmas.{nothing_left, next_plain, next_use, plain_through, refused_line}
use Rattle.design_flatten.proofs.frames.place_lines.Goals as goal

pub lines-init : goal.lines-init
lines-init c way names before h = (before, h, refl)

pub returns-in-Some-clause-ok : goal.returns-in-Some-clause-ok
returns-in-Some-clause-ok c way names before h =
    let f = c.args.frame.now in
    let o = get_or f.lines.now c.lines.k c.index-frame-k.result in
    let is : o ≡ get_or f.lines.now c.lines.k o = ap (λ d. get_or f.lines.now c.lines.k d) c.index-frame-k.is in
    let lt : c.lines.k < length f.lines.now = omega arith in
    let ps = map (λ p. pair_of p.now) c.deref.result.now in
    let pairs = map (pair_through (becomes (place_of f.given []) f.names.now)) ps in
    let says : (lean_in o).part ≡ UsePart c.in-Some.found.model.now ps [] =
    ap (λ xs. with_pairs (map (λ p. pair_of p.now) xs) (part_in o.line.said)) (sym c.deref.ensures.value) ∙ ap (with_pairs ps) c.in-Some.ensures in
    let now = c.lines.invariant way names before h in (
      now.0,
      now.1,
      (
        o.line.number,
        pairs,
        c.in_ok-given.ensures.used,
        c.in_ok-given.ensures.given,
        sym now.2 ∙ ap (λ xs. now.0 ++ xs) (next_use way f c.lines.k o lt is c.in-Some.found.model.now ps says),
      ),
    )

pub returns-in_err-put_line-clause-refused : goal.returns-in_err-put_line-clause-refused
returns-in_err-put_line-clause-refused c way =
    let p = err_from_is_err_and c.from_residual-in_err-put_line.result c.from_residual-in_err-put_line.ensures.1 in
    let f = c.args.frame.now in
    let o = get_or f.lines.now c.lines.k c.index-frame-k.result in
    let is : o ≡ get_or f.lines.now c.lines.k o = ap (λ d. get_or f.lines.now c.lines.k d) c.index-frame-k.is in
    let lt : c.lines.k < length f.lines.now = omega arith in
    let none : is_use (line_in o.line).part ≡ false = c.in_default.ensures in
    let T = through (place_of f.given way) f.names.now in
    rw (p.1, p.2) (λ names before h.
    let now = c.lines.invariant way names before h in
    refused_line c.in_err-put_line.field-0.0 now.0 (T (line_in o.line)) (before ++ left_in way f) (left_from way f (c.lines.k + 1) f.uses) now.1.none_left
    (plain_through (place_of f.given way) f.names.now (line_in o.line) none)
    (sym now.2 ∙ ap (λ xs. now.0 ++ xs) (next_plain way f c.lines.k o lt is none))
    (c.in_err-put_line.ensures.refused way names now.0 now.1))

pub lines-preserved : goal.lines-preserved
lines-preserved c way names before h =
    let f = c.args.frame.now in
    let o = get_or f.lines.now c.lines.k c.index-frame-k.result in
    let is : o ≡ get_or f.lines.now c.lines.k o = ap (λ d. get_or f.lines.now c.lines.k d) c.index-frame-k.is in
    let lt : c.lines.k < length f.lines.now = omega arith in
    let none : is_use (line_in o.line).part ≡ false = c.in_default.ensures in
    let T = through (place_of f.given way) f.names.now in
    let now = c.lines.invariant way names before h in (
      now.0 ++ T (line_in o.line) ∷ [],
      c.in_ok-put_line.ensures.ok way names now.0 now.1,
      append_assoc now.0 (T (line_in o.line) ∷ []) (left_from way f (c.lines.k + 1) f.uses)
          ∙ ap (λ xs. now.0 ++ xs) (sym (next_plain way f c.lines.k o lt is none))
          ∙ now.2,
    )

pub returns-clause-ok : goal.returns-clause-ok
returns-clause-ok c way names before h =
    let f = c.args.frame.now in
    let now = c.lines.invariant way names before h in
    let le : length f.lines.now ≤ c.lines.k = omega arith in
    (now.0, now.1, sym now.2 ∙ ap (λ xs. now.0 ++ xs) (nothing_left way f c.lines.k le) ∙ append-nil now.0)
