use Rattle.std.proofs.Common.{◌≡◌, ◌+◌, ◌-◌, ◌<◌, ◌++◌, ◌∷◌, [], length, take, min, vec_capacity, option_map, arith, ap, sym, ◌∙◌, refl, subst}
use Rattle.std.proofs.lemmas.List.{append-nil, nil_from_length}
use Rattle.pm_view.specs.declared.around.Around.{Around}
use Rattle.pm_view.specs.Ahead.{ahead, AreFlat, FitIn}
use Rattle.pm_view.specs.Grouped.{grouped}
use Rattle.pm_view.specs.Parts.{head_of, seen}
use Rattle.pm_view.specs.Known.{Opening, Closing, Single}
use Rattle.pm_view.specs.Seen.{Opens, Taken}
use Rattle.pm_view.proofs.ChildLaws.{child-next, stands-end}
use Rattle.pm_view.proofs.AheadLaws.{flat-push, flat-last, one-taken, none-left, ahead-close, ahead-leaf, ahead-open, text-taken, text-fits, text-long, leaf-fits, open-fits, open-room, close-fits}
use Rattle.pm_view.proofs.tokens.Tokens.next.Goals as goal

pub returns-in_err-around : goal.returns-in_err-around
returns-in_err-around c =
    let s = c.self.inside in
    let os : s.outer.items ≡ [] = nil_from_length s.outer.items (omega (arith, c.in_err-around.ensures.cases.0, s.outer.ok.0)) in
    let ns : c.pop.new.self.items ≡ [] = sym (append-nil c.pop.new.self.items) ∙ (sym c.in_err-around.ensures.items ∙ os) in
    let end = stands-end c.children-children.result s.content.now s.at c.find-found.result.index c.find-found.result.rest c.children-children.ensures.tokens c.find-found.ensures (omega (arith, c.if-found-len.true, c.len.ensures)) in
    let new = grouped (take s.left (ahead s.content.now s.at c.pop.new.self.items)) in
    let both : (c.args.self.now ≡ []) × (new ≡ []) = (sym c.self.view_is ∙ none-left s.left s.content.now s.at s.outer.items end os, none-left s.left s.content.now s.at c.pop.new.self.items end ns) in
    subst (λ o. Taken c.args.self.now (option_map seen o) new) (sym c.from_residual.ensures) both

pub invariant_of-self-then-found-len : goal.invariant_of-self-then-found-len
invariant_of-self-then-found-len c =
    let s = c.self.inside in
    let v = c.self.invariant in
    let a = c.in_ok-around.around in
    let os = c.pop.new.self.items in
    let is = c.in_ok-around.ensures.items in
    let end = stands-end c.children-children.result s.content.now s.at c.find-found.result.index c.find-found.result.rest c.children-children.ensures.tokens c.find-found.ensures (omega (arith, c.if-found-len.true, c.len.ensures)) in
    let f = flat-last os a (subst AreFlat is v.1) in
    let fit = close-fits (vec_capacity s.outer) s.left s.content.now a.content.now s.at a.at os a (head_of a.node.now) (omega (arith, c.if-self-eq0.false)) (ahead-close s.content.now s.at os a end) (subst (λ z. FitIn (vec_capacity s.outer) s.left s.content.now s.at z) is v.2) in
    (f.0, f.1, omega (arith, fit, c.in_ok-around.ensures.capacity))

pub returns-then-found-len : goal.returns-then-found-len
returns-then-found-len c =
    let s = c.self.inside in
    let a = c.in_ok-around.around in
    let os = c.pop.new.self.items in
    let end = stands-end c.children-children.result s.content.now s.at c.find-found.result.index c.find-found.result.rest c.children-children.ensures.tokens c.find-found.ensures (omega (arith, c.if-found-len.true, c.len.ensures)) in
    sym c.self.view_is
    ∙ (ap (λ z. grouped (take s.left (ahead s.content.now s.at z))) c.in_ok-around.ensures.items
    ∙ ap grouped (one-taken (Closing (head_of a.node.now)) (ahead s.content.now s.at (os ++ (a ∷ []))) (ahead a.content.now a.at os) s.left (omega (arith, c.if-self-eq0.false)) (ahead-close s.content.now s.at os a end)))

pub overflow_add-end : goal.overflow_add-end
overflow_add-end c =
    let s = c.self.inside in
    let e = c.children-children.ensures in
    let f = c.find-found.result in
    let k = child-next c.children-children.result s.content.now s.at f.index f.rest c.size-size.result c.get.result.now c.deref-child.result.now e.tokens e.normal e.each c.find-found.ensures (omega (arith, c.find-found.ensures.within, c.if-found-len.false, c.len.ensures)) c.get.ensures c.deref-child.ensures c.size-size.ensures.size in
    omega (arith, k.behind.within, e.bound, ap length e.tokens)

pub invariant_of-self-in-Text : goal.invariant_of-self-in-Text
invariant_of-self-in-Text c =
    let s = c.self.inside in
    let v = c.self.invariant in
    let e = c.children-children.ensures in
    let f = c.find-found.result in
    let n = c.deref-child.result.now in
    let k = child-next c.children-children.result s.content.now s.at f.index f.rest c.size-size.result c.get.result.now n e.tokens e.normal e.each c.find-found.ensures (omega (arith, c.find-found.ensures.within, c.if-found-len.false, c.len.ensures)) c.get.ensures c.deref-child.ensures c.size-size.ensures.size in
    (k.behind, v.1, text-fits s.content.now s.at f.rest (s.at - f.rest + c.size-size.result) n k s.outer.items c.in-Text.units c.in-Text.is s.left c.min-count.result (omega (arith, c.min-count.ensures, c.len-in-Text.ensures)) (vec_capacity s.outer) v.2)

pub invariant_of-self-in-Leaf : goal.invariant_of-self-in-Leaf
invariant_of-self-in-Leaf c =
    let s = c.self.inside in
    let v = c.self.invariant in
    let e = c.children-children.ensures in
    let f = c.find-found.result in
    let n = c.deref-child.result.now in
    let end = s.at - f.rest + c.size-size.result in
    let k = child-next c.children-children.result s.content.now s.at f.index f.rest c.size-size.result c.get.result.now n e.tokens e.normal e.each c.find-found.ensures (omega (arith, c.find-found.ensures.within, c.if-found-len.false, c.len.ensures)) c.get.ensures c.deref-child.ensures c.size-size.ensures.size in
    (k.behind, v.1, leaf-fits (vec_capacity s.outer) s.left s.content.now s.content.now s.at end s.outer.items (head_of n) (omega (arith, c.if-self-eq0.false)) (ahead-leaf s.content.now s.at f.rest end n k s.outer.items c.in-Leaf.is) v.2)

pub returns-in-Text : goal.returns-in-Text
returns-in-Text c =
    let s = c.self.inside in
    let e = c.children-children.ensures in
    let f = c.find-found.result in
    let n = c.deref-child.result.now in
    let count = c.min-count.result in
    let k = child-next c.children-children.result s.content.now s.at f.index f.rest c.size-size.result c.get.result.now n e.tokens e.normal e.each c.find-found.ensures (omega (arith, c.find-found.ensures.within, c.if-found-len.false, c.len.ensures)) c.get.ensures c.deref-child.ensures c.size-size.ensures.size in
    sym c.self.view_is
    ∙ text-taken s.content.now s.at f.rest (s.at - f.rest + c.size-size.result) n k s.outer.items c.in-Text.units c.in-Text.is s.left count (omega (arith, c.min-count.ensures, c.len-in-Text.ensures)) _ refl (omega (arith, c.if-self-eq0.false))

pub returns-in-Leaf : goal.returns-in-Leaf
returns-in-Leaf c =
    let s = c.self.inside in
    let e = c.children-children.ensures in
    let f = c.find-found.result in
    let n = c.deref-child.result.now in
    let end = s.at - f.rest + c.size-size.result in
    let k = child-next c.children-children.result s.content.now s.at f.index f.rest c.size-size.result c.get.result.now n e.tokens e.normal e.each c.find-found.ensures (omega (arith, c.find-found.ensures.within, c.if-found-len.false, c.len.ensures)) c.get.ensures c.deref-child.ensures c.size-size.ensures.size in
    sym c.self.view_is
    ∙ ap grouped (one-taken (Single (head_of n)) (ahead s.content.now s.at s.outer.items) (ahead s.content.now end s.outer.items) s.left (omega (arith, c.if-self-eq0.false)) (ahead-leaf s.content.now s.at f.rest end n k s.outer.items c.in-Leaf.is))

pub unreachable-requires : goal.unreachable-requires
unreachable-requires c =
    let s = c.self.inside in
    let v = c.self.invariant in
    let e = c.children-children.ensures in
    let f = c.find-found.result in
    let n = c.deref-child.result.now in
    let end = s.at - f.rest + c.size-size.result in
    let k = child-next c.children-children.result s.content.now s.at f.index f.rest c.size-size.result c.get.result.now n e.tokens e.normal e.each c.find-found.ensures (omega (arith, c.find-found.ensures.within, c.if-found-len.false, c.len.ensures)) c.get.ensures c.deref-child.ensures c.size-size.ensures.size in
    let a : Around = record { node = c.deref-child.result; content = s.content; at = end } in
    let some : 0 < s.left = omega (arith, c.if-self-eq0.false) in
    let is = ahead-open s.content.now s.at f.rest end n k s.outer.items c.in-Children.inner a c.in-Children.is v.0.flat refl refl refl in
    let room : length s.outer.items < vec_capacity s.outer = open-room (vec_capacity s.outer) s.left s.content.now c.in-Children.inner s.at 0 s.outer.items a (head_of n) some is v.2 in
    omega (arith, room, c.in-Err.ensures.full, s.outer.ok.0)

pub overflow_sub-rest : goal.overflow_sub-rest
overflow_sub-rest c =
    let s = c.self.inside in
    let v = c.self.invariant in
    let e = c.children-children.ensures in
    let f = c.find-found.result in
    let n = c.deref-child.result.now in
    let end = s.at - f.rest + c.size-size.result in
    let k = child-next c.children-children.result s.content.now s.at f.index f.rest c.size-size.result c.get.result.now n e.tokens e.normal e.each c.find-found.ensures (omega (arith, c.find-found.ensures.within, c.if-found-len.false, c.len.ensures)) c.get.ensures c.deref-child.ensures c.size-size.ensures.size in
    let t = text-long s.content.now s.at f.rest end n k s.outer.items c.in-Text.units c.in-Text.is 0 0 (let z : 0 ≡ min (length c.in-Text.units - f.rest) 0 = omega arith in z) in
    omega (arith, t, c.len-in-Text.ensures)

pub invariant_of-self-in-Ok : goal.invariant_of-self-in-Ok
invariant_of-self-in-Ok c =
    let s = c.self.inside in
    let v = c.self.invariant in
    let e = c.children-children.ensures in
    let f = c.find-found.result in
    let n = c.deref-child.result.now in
    let end = s.at - f.rest + c.size-size.result in
    let k = child-next c.children-children.result s.content.now s.at f.index f.rest c.size-size.result c.get.result.now n e.tokens e.normal e.each c.find-found.ensures (omega (arith, c.find-found.ensures.within, c.if-found-len.false, c.len.ensures)) c.get.ensures c.deref-child.ensures c.size-size.ensures.size in
    let os = s.outer.items in
    let inner = c.in-Children.inner in
    let a : Around = record { node = c.deref-child.result; content = s.content; at = end } in
    let some : 0 < s.left = omega (arith, c.if-self-eq0.false) in
    let is = ahead-open s.content.now s.at f.rest end n k os inner a c.in-Children.is v.0.flat refl refl refl in
    let pushed : c.push.new.self.items ≡ os ++ (a ∷ []) = c.in-Ok.ensures.items in
    let fit = subst (λ z. FitIn (vec_capacity s.outer) (s.left - 1) inner 0 z) (sym pushed) (open-fits (vec_capacity s.outer) s.left s.content.now inner s.at 0 os a (head_of n) some is v.2) in
    (record { within = omega arith; flat = refl }, subst AreFlat (sym pushed) (flat-push os a v.1 k.behind), omega (arith, fit, c.in-Ok.ensures.capacity))

pub returns-in-Ok : goal.returns-in-Ok
returns-in-Ok c =
    let s = c.self.inside in
    let v = c.self.invariant in
    let e = c.children-children.ensures in
    let f = c.find-found.result in
    let n = c.deref-child.result.now in
    let end = s.at - f.rest + c.size-size.result in
    let k = child-next c.children-children.result s.content.now s.at f.index f.rest c.size-size.result c.get.result.now n e.tokens e.normal e.each c.find-found.ensures (omega (arith, c.find-found.ensures.within, c.if-found-len.false, c.len.ensures)) c.get.ensures c.deref-child.ensures c.size-size.ensures.size in
    let os = s.outer.items in
    let inner = c.in-Children.inner in
    let a : Around = record { node = c.deref-child.result; content = s.content; at = end } in
    let some : 0 < s.left = omega (arith, c.if-self-eq0.false) in
    let is = ahead-open s.content.now s.at f.rest end n k os inner a c.in-Children.is v.0.flat refl refl refl in
    let pushed : c.push.new.self.items ≡ os ++ (a ∷ []) = c.in-Ok.ensures.items in
    sym c.self.view_is
    ∙ (ap grouped (one-taken (Opening (head_of n)) (ahead s.content.now s.at os) (ahead inner 0 (os ++ (a ∷ []))) s.left some is)
    ∙ ap (λ z. Opens (head_of n) ∷ grouped (take (s.left - 1) (ahead inner 0 z))) (sym pushed))
