use Rattle.std.proofs.Common.{◌≡◌, ◌++◌, ◌+◌, ◌<◌, [], ◌∷◌, List, ℕ, length, map, take, get_or, ⊎_elim, sym, ap, ◌∙◌, arith, rules, append_assoc}
use Rattle.std.proofs.lemmas.List.{take_more, length-map, get_or-map}
use Rattle.pm_journal.specs.Lines.{recorded}
use Rattle.pm_journal.proofs.journal.Journal.append_each.Goals as goal

pub loop-line-preserved : goal.loop-line-preserved
loop-line-preserved g c =
    let old = recorded (g.D.Disk.seen c.args.self.now.disk) in
    let new = map (λ line. line.items) c.args.lines.now in
    let i = c.loop-line.line-index in
    let inv = c.loop-line.invariant in
    let low : i < length new = search (rules, length-map) in
    let item = c.line-item.result in
    let there : get_or c.args.lines.now i item ≡ item = search rules in
    let here : get_or new i [] ≡ c.deref.result.now = get_or-map (λ line. line.items) c.args.lines.now i item [] (search (rules, length-map)) ∙ ap (λ line. line.items) there ∙ sym c.deref.ensures.value in
    let more : take (i + 1) new ≡ take i new ++ c.deref.result.now ∷ [] = take_more new i [] low ∙ ap (λ (l : List ℕ). take i new ++ l ∷ []) here in
    record {
      ready = c.in-Ok.ensures.open;
      told = omega (arith, inv.told);
      clean = λ is. inv.clean (c.append.ensures.clean is);
      added = λ is.
          c.in-Ok.ensures.added is ∙ ap (λ (ls : List (List ℕ)). ls ++ c.deref.result.now ∷ []) (inv.added (c.append.ensures.clean is))
          ∙ append_assoc old (take i new) (c.deref.result.now ∷ []) ∙ ap (λ (ls : List (List ℕ)). old ++ ls) (sym more);
    }

pub returns-in-Err-clause-crash : goal.returns-in-Err-clause-crash
returns-in-Err-clause-crash g c is d left =
    let old = recorded (g.D.Disk.seen c.args.self.now.disk) in
    let new = map (λ line. line.items) c.args.lines.now in
    let i = c.loop-line.line-index in
    let inv = c.loop-line.invariant in
    let so_far = inv.added (c.append.ensures.clean is) in
    let low : i < length new = search (rules, length-map) in
    let item = c.line-item.result in
    let there : get_or c.args.lines.now i item ≡ item = search rules in
    let here : get_or new i [] ≡ c.deref.result.now = get_or-map (λ line. line.items) c.args.lines.now i item [] (search (rules, length-map)) ∙ ap (λ line. line.items) there ∙ sym c.deref.ensures.value in
    let more : take (i + 1) new ≡ take i new ++ c.deref.result.now ∷ [] = take_more new i [] low ∙ ap (λ (l : List ℕ). take i new ++ l ∷ []) here in
    ⊎_elim
    (λ before. record { count = i; all_told = omega (arith, inv.told); one_more = omega (arith, inv.told); within = omega arith; is = before ∙ so_far })
    (λ after. record {
      count = i + 1;
      all_told = omega (arith, inv.told);
      one_more = omega (arith, inv.told);
      within = omega arith;
      is =
          after ∙ ap (λ (ls : List (List ℕ)). ls ++ c.deref.result.now ∷ []) so_far ∙ append_assoc old (take i new) (c.deref.result.now ∷ [])
          ∙ ap (λ (ls : List (List ℕ)). old ++ ls) (sym more);
    })
    (c.append.ensures.crash is d left)
