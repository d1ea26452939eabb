use Rattle.std.proofs.Common.{◌≡◌, ◌-◌, ◌<◌, ◌++◌, length, take, drop, ap, sym, ◌∙◌, subst, arith, length-append}
use Rattle.std.specs.Prelude.{IfOk}
use Rattle.std.proofs.lemmas.List.{append-nil, length-take-le, take_all}
use Rattle.pm_sized.specs.Parts.{part}
use Rattle.pm_units.specs.Pieces.{piece_units, pieces_in, text_in, spelled}
use Rattle.pm_units.proofs.TextLaws.{measured-at, part-front, text-bound, around, before-there}
use Rattle.pm_units.proofs.pieces.Pieces.head.Goals as goal

pub returns-then-to-len-clause-text : goal.returns-then-to-len-clause-text
returns-then-to-len-clause-text c =
    let us = text_in c.args.self.now in
    subst (λ vs. IfOk c.copy.result (λ p. text_in p ≡ vs)) (sym (take_all c.args.to us (omega (arith, c.if-to-len.true, c.len.ensures)))) c.copy.ensures.text

pub append-requires-clause-room : goal.append-requires-clause-room
append-requires-clause-room c =
    let vs = pieces_in c.args.self.now in
    let index = c.place-place.result.index in
    omega (arith, ap length c.new-made.ensures.text, ap length (part-front index vs), ap length (around vs index), length-append (spelled (take index vs)) (spelled (drop index vs)), text-bound c.args.self.now c.requires.pieces)

pub returns-then-place-eq0-clause-text : goal.returns-then-place-eq0-clause-text
returns-then-place-eq0-clause-text c =
    let vs = pieces_in c.args.self.now in
    let index = c.place-place.result.index in
    let rest = c.place-place.result.rest in
    let p = c.piece-piece.result.now in
    let before = before-there vs c.args.to index rest p c.place-place.ensures c.piece-piece.ensures in
    let front : text_in c.append.new.self ≡ spelled (take index vs) = c.in_ok-append.ensures.text ∙ (ap (λ us. us ++ spelled (part 0 index vs)) c.new-made.ensures.text ∙ part-front index vs) in
    front ∙ (sym (append-nil (spelled (take index vs))) ∙ (ap (λ n. spelled (take index vs) ++ take n (piece_units p)) (sym c.if-place-eq0.true) ∙ sym before))

pub part-requires-clause-within : goal.part-requires-clause-within
part-requires-clause-within c =
    let inside = c.place-place.ensures.inside c.piece-piece.result.now c.piece-piece.ensures in
    omega (arith, inside)

pub push-requires-clause-some : goal.push-requires-clause-some
push-requires-clause-some c =
    let vs = pieces_in c.args.self.now in
    let index = c.place-place.result.index in
    let rest = c.place-place.result.rest in
    let p = c.piece-piece.result.now in
    let inside : rest < length (piece_units p) = c.place-place.ensures.inside p c.piece-piece.ensures in
    let last : piece_units c.in_ok-last.last ≡ take rest (piece_units p) = c.in_ok-last.ensures ∙ ap (λ n. take n (piece_units p)) {x = rest - 0} {y = rest} (omega arith) in
    omega (arith, ap length last, length-take-le rest (piece_units p) (omega (arith, inside)), c.if-place-eq0.false)

pub push-requires-clause-most : goal.push-requires-clause-most
push-requires-clause-most c =
    let vs = pieces_in c.args.self.now in
    let index = c.place-place.result.index in
    let rest = c.place-place.result.rest in
    let p = c.piece-piece.result.now in
    let inside : rest < length (piece_units p) = c.place-place.ensures.inside p c.piece-piece.ensures in
    let last : piece_units c.in_ok-last.last ≡ take rest (piece_units p) = c.in_ok-last.ensures ∙ ap (λ n. take n (piece_units p)) {x = rest - 0} {y = rest} (omega arith) in
    omega (arith, ap length last, length-take-le rest (piece_units p) (omega (arith, inside)), inside, (measured-at vs index p c.requires.pieces.measured c.place-place.ensures.within c.piece-piece.ensures).1)

pub push-requires-clause-room : goal.push-requires-clause-room
push-requires-clause-room c =
    let vs = pieces_in c.args.self.now in
    let index = c.place-place.result.index in
    let rest = c.place-place.result.rest in
    let p = c.piece-piece.result.now in
    let before = before-there vs c.args.to index rest p c.place-place.ensures c.piece-piece.ensures in
    let front : text_in c.append.new.self ≡ spelled (take index vs) = c.in_ok-append.ensures.text ∙ (ap (λ us. us ++ spelled (part 0 index vs)) c.new-made.ensures.text ∙ part-front index vs) in
    let inside : rest < length (piece_units p) = c.place-place.ensures.inside p c.piece-piece.ensures in
    let last : piece_units c.in_ok-last.last ≡ take rest (piece_units p) = c.in_ok-last.ensures ∙ ap (λ n. take n (piece_units p)) {x = rest - 0} {y = rest} (omega arith) in
    let whole : text_in c.append.new.self ++ piece_units c.in_ok-last.last ≡ take c.args.to (spelled vs) = ap (λ us. us ++ piece_units c.in_ok-last.last) front ∙ (ap (λ us. spelled (take index vs) ++ us) last ∙ sym before) in
    omega (arith, ap length whole, length-append (text_in c.append.new.self) (piece_units c.in_ok-last.last), length-take-le c.args.to (spelled vs) c.requires.within, c.requires.within, text-bound c.args.self.now c.requires.pieces)

pub returns-clause-text : goal.returns-clause-text
returns-clause-text c =
    let vs = pieces_in c.args.self.now in
    let index = c.place-place.result.index in
    let rest = c.place-place.result.rest in
    let p = c.piece-piece.result.now in
    let before = before-there vs c.args.to index rest p c.place-place.ensures c.piece-piece.ensures in
    let front : text_in c.append.new.self ≡ spelled (take index vs) = c.in_ok-append.ensures.text ∙ (ap (λ us. us ++ spelled (part 0 index vs)) c.new-made.ensures.text ∙ part-front index vs) in
    let inside : rest < length (piece_units p) = c.place-place.ensures.inside p c.piece-piece.ensures in
    let last : piece_units c.in_ok-last.last ≡ take rest (piece_units p) = c.in_ok-last.ensures ∙ ap (λ n. take n (piece_units p)) {x = rest - 0} {y = rest} (omega arith) in
    let whole : text_in c.append.new.self ++ piece_units c.in_ok-last.last ≡ take c.args.to (spelled vs) = ap (λ us. us ++ piece_units c.in_ok-last.last) front ∙ (ap (λ us. spelled (take index vs) ++ us) last ∙ sym before) in
    c.in_ok-push.ensures.text ∙ whole
