use Rattle.std.proofs.Common.{◌≡◌, ◌+◌, ◌-◌, ◌<◌, ◌++◌, length, take, drop, ap, sym, ◌∙◌, arith, length-append}
use Rattle.std.proofs.lemmas.List.{length-drop, drop_all, take_rest}
use Rattle.pm_sized.specs.Parts.{part}
use Rattle.pm_units.specs.Pieces.{piece_units, pieces_in, text_in, spelled}
use Rattle.pm_units.proofs.TextLaws.{measured-at, part-rest, text-bound, from-there}
use Rattle.pm_units.proofs.pieces.Pieces.tail.Goals as goal

pub returns-then-from-len-clause-text : goal.returns-then-from-len-clause-text
returns-then-from-len-clause-text c =
    let us = text_in c.args.self.now in
    c.new-made.ensures.text ∙ sym (drop_all c.args.from us (omega (arith, c.if-from-len.true, c.len.ensures)))

pub part-requires-clause-order : goal.part-requires-clause-order
part-requires-clause-order c =
    let inside = c.place-place.ensures.inside c.piece-piece.result.now c.piece-piece.ensures in
    omega (arith, inside, c.len-2.ensures)

pub push-requires-clause-some : goal.push-requires-clause-some
push-requires-clause-some c =
    let vs = pieces_in c.args.self.now in
    let index = c.place-place.result.index in
    let rest = c.place-place.result.rest in
    let p = c.piece-piece.result.now in
    let inside : rest < length (piece_units p) = c.place-place.ensures.inside p c.piece-piece.ensures in
    let first : piece_units c.in_ok-first.first ≡ drop rest (piece_units p) = c.in_ok-first.ensures ∙ (ap (λ n. take (n - rest) (drop rest (piece_units p))) c.len-2.ensures ∙ take_rest (piece_units p) rest) in
    omega (arith, ap length first, length-drop rest (piece_units p), inside)

pub push-requires-clause-most : goal.push-requires-clause-most
push-requires-clause-most c =
    let vs = pieces_in c.args.self.now in
    let index = c.place-place.result.index in
    let rest = c.place-place.result.rest in
    let p = c.piece-piece.result.now in
    let inside : rest < length (piece_units p) = c.place-place.ensures.inside p c.piece-piece.ensures in
    let first : piece_units c.in_ok-first.first ≡ drop rest (piece_units p) = c.in_ok-first.ensures ∙ (ap (λ n. take (n - rest) (drop rest (piece_units p))) c.len-2.ensures ∙ take_rest (piece_units p) rest) in
    omega (arith, ap length first, length-drop rest (piece_units p), (measured-at vs index p c.requires.pieces.measured c.place-place.ensures.within c.piece-piece.ensures).1)

pub push-requires-clause-room : goal.push-requires-clause-room
push-requires-clause-room c =
    let vs = pieces_in c.args.self.now in
    let index = c.place-place.result.index in
    let rest = c.place-place.result.rest in
    let p = c.piece-piece.result.now in
    let inside : rest < length (piece_units p) = c.place-place.ensures.inside p c.piece-piece.ensures in
    let first : piece_units c.in_ok-first.first ≡ drop rest (piece_units p) = c.in_ok-first.ensures ∙ (ap (λ n. take (n - rest) (drop rest (piece_units p))) c.len-2.ensures ∙ take_rest (piece_units p) rest) in
    omega (arith, ap length first, length-drop rest (piece_units p), (measured-at vs index p c.requires.pieces.measured c.place-place.ensures.within c.piece-piece.ensures).1, ap length c.new-made.ensures.text)

pub append-requires-clause-room : goal.append-requires-clause-room
append-requires-clause-room c =
    let vs = pieces_in c.args.self.now in
    let index = c.place-place.result.index in
    let rest = c.place-place.result.rest in
    let p = c.piece-piece.result.now in
    let inside : rest < length (piece_units p) = c.place-place.ensures.inside p c.piece-piece.ensures in
    let first : piece_units c.in_ok-first.first ≡ drop rest (piece_units p) = c.in_ok-first.ensures ∙ (ap (λ n. take (n - rest) (drop rest (piece_units p))) c.len-2.ensures ∙ take_rest (piece_units p) rest) in
    let pushed : text_in c.push.new.self ≡ drop rest (piece_units p) = c.in_ok-push.ensures.text ∙ (ap (λ us. us ++ piece_units c.in_ok-first.first) c.new-made.ensures.text ∙ first) in
    let whole : text_in c.push.new.self ++ spelled (part (index + 1) c.count-count.result vs) ≡ drop c.args.from (spelled vs) = ap (λ us. us ++ spelled (part (index + 1) c.count-count.result vs)) pushed ∙ (ap (λ us. drop rest (piece_units p) ++ us) (part-rest (index + 1) c.count-count.result vs c.count-count.ensures) ∙ sym (from-there vs c.args.from index rest p c.place-place.ensures c.piece-piece.ensures)) in
    omega (arith, ap length whole, length-append (text_in c.push.new.self) (spelled (part (index + 1) c.count-count.result vs)), length-drop c.args.from (spelled vs), text-bound c.args.self.now c.requires.pieces)

pub returns-clause-text : goal.returns-clause-text
returns-clause-text c =
    let vs = pieces_in c.args.self.now in
    let index = c.place-place.result.index in
    let rest = c.place-place.result.rest in
    let p = c.piece-piece.result.now in
    let inside : rest < length (piece_units p) = c.place-place.ensures.inside p c.piece-piece.ensures in
    let first : piece_units c.in_ok-first.first ≡ drop rest (piece_units p) = c.in_ok-first.ensures ∙ (ap (λ n. take (n - rest) (drop rest (piece_units p))) c.len-2.ensures ∙ take_rest (piece_units p) rest) in
    let pushed : text_in c.push.new.self ≡ drop rest (piece_units p) = c.in_ok-push.ensures.text ∙ (ap (λ us. us ++ piece_units c.in_ok-first.first) c.new-made.ensures.text ∙ first) in
    let whole : text_in c.push.new.self ++ spelled (part (index + 1) c.count-count.result vs) ≡ drop c.args.from (spelled vs) = ap (λ us. us ++ spelled (part (index + 1) c.count-count.result vs)) pushed ∙ (ap (λ us. drop rest (piece_units p) ++ us) (part-rest (index + 1) c.count-count.result vs c.count-count.ensures) ∙ sym (from-there vs c.args.from index rest p c.place-place.ensures c.piece-piece.ensures)) in
    c.in_ok-append.ensures.text ∙ whole
