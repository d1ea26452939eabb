use Rattle.std.proofs.Common.{◌++◌, take}
use Rattle.pm_client.specs.Kins.{Stands}
use Rattle.pm_remote.specs.Hearings.{heard}
use Rattle.pm_remote.proofs.Confirmings.{stands-on}
use Rattle.pm_remote.proofs.Receivings.{loose-back, back-leads, news-kin, news-stands, news-leads, news-told, news-taken, news-version, news-base, news-reach}
use Rattle.pm_remote.proofs.receiving.receive.Goals as goal

pub take_to-outcome-requires-clause-stands : goal.take_to-outcome-requires-clause-stands
take_to-outcome-requires-clause-stands g c =
    let n = c.in_ok-news in
    rw (c.in_ok-keep.ensures.kept, c.version-since.ensures)
    (news-stands g.C.Change.means c.args.rules.now c.args.client.now c.requires.stands c.requires.bare c.args.other c.args.own c.args.foreign.items n.news n.ensures.news
    c.requires.within c.requires.named n.ensures.short)

pub take_to-outcome-requires-clause-leads : goal.take_to-outcome-requires-clause-leads
take_to-outcome-requires-clause-leads g c =
    let n = c.in_ok-news in
    rw (c.in_ok-keep.ensures.kept, c.version-since.ensures)
    (news-leads g.C.Change.means c.args.rules.now c.args.client.now c.requires.stands c.requires.bare c.args.other c.args.own c.args.foreign.items n.news n.ensures.news
    c.requires.within c.requires.named n.ensures.short)

pub lost-dropped-requires : goal.lost-dropped-requires
lost-dropped-requires g c =
    let n = c.in_ok-news in
    let h = rw (c.in_ok-keep.ensures.kept, c.version-since.ensures) at c.in_ok-told.ensures.takes in (
      _,
      _,
      _,
      news-told g.C.Change.means c.args.rules.now c.args.client.now c.requires.stands c.requires.bare c.args.other c.args.own c.args.foreign.items n.news n.ensures.news
          c.requires.within c.requires.named c.requires.some c.in_ok-told.told c.take_to-outcome.new.self h,
    )

pub returns-clause-takes : goal.returns-clause-takes
returns-clause-takes g c =
    let n = c.in_ok-news in
    let h = rw (c.in_ok-keep.ensures.kept, c.version-since.ensures) at c.in_ok-told.ensures.takes in
    let told =
    news-told g.C.Change.means c.args.rules.now c.args.client.now c.requires.stands c.requires.bare c.args.other c.args.own c.args.foreign.items n.news n.ensures.news
    c.requires.within c.requires.named c.requires.some c.in_ok-told.told c.take_to-outcome.new.self h in
    rw c.forget.ensures.forgets
    (news-taken g.C.Change.means c.args.rules.now c.args.client.now c.requires.stands c.requires.bare c.args.other c.args.own c.args.foreign.items n.news n.ensures.news
    c.requires.within c.requires.named c.requires.some c.in_ok-told.told c.take_to-outcome.new.self h c.lost-dropped.result (c.lost-dropped.ensures _ _ _ told))

pub returns-clause-version : goal.returns-clause-version
returns-clause-version g c =
    let n = c.in_ok-news in
    let h = rw (c.in_ok-keep.ensures.kept, c.version-since.ensures) at c.in_ok-told.ensures.takes in
    rw c.forget.ensures.forgets
    (news-version g.C.Change.means c.args.rules.now c.args.client.now c.requires.stands c.requires.bare c.args.other c.args.own c.args.foreign.items n.news n.ensures.news
    c.requires.within c.requires.named c.requires.some c.in_ok-told.told c.take_to-outcome.new.self h)

pub returns-clause-applies : goal.returns-clause-applies
returns-clause-applies g c =
    let n = c.in_ok-news in
    let client = c.args.client.now in
    let h = rw (c.in_ok-keep.ensures.kept, c.version-since.ensures) at c.in_ok-told.ensures.takes in
    let base_is =
    news-base g.C.Change.means c.args.rules.now client c.requires.stands c.requires.bare c.args.other c.args.own c.args.foreign.items n.news n.ensures.news
    c.requires.within c.requires.named c.requires.some c.in_ok-told.told c.take_to-outcome.new.self h in
    rw (c.forget.ensures.forgets, base_is) n.ensures.news.leads

pub returns-clause-loose : goal.returns-clause-loose
returns-clause-loose g c loose =
    let news = c.in_ok-news.ensures.news in
    loose-back g.C.Change.means c.args.rules.now g.met.C.Change.laws c.args.client.now c.requires.stands c.args.own news.middle news.middle_is loose c.in_ok-news.news.back news.back_is

pub returns-clause-stands : goal.returns-clause-stands
returns-clause-stands g c =
    let n = c.in_ok-news in
    let rules = c.args.rules.now in
    let kept =
    news-stands g.C.Change.means rules c.args.client.now c.requires.stands c.requires.bare c.args.other c.args.own c.args.foreign.items n.news n.ensures.news
    c.requires.within c.requires.named n.ensures.short in
    stands-on g.C.Change.means rules c.keep.new.self c.forget.new.self (rw (c.in_ok-keep.ensures.kept, c.version-since.ensures) kept)
    (λ first log kin. c.forget.ensures.kin rules first log (c.take_to-outcome.ensures.kin first log kin))

pub returns-clause-leads : goal.returns-clause-leads
returns-clause-leads g c =
    let m = g.C.Change.means in
    let n = c.in_ok-news in
    let news = n.ensures.news in
    let rules = c.args.rules.now in
    let client = c.args.client.now in
    let new = c.forget.new.self in
    let h = rw (c.in_ok-keep.ensures.kept, c.version-since.ensures) at c.in_ok-told.ensures.takes in
    let reach =
    news-reach m rules client c.requires.stands c.requires.bare c.args.other c.args.own c.args.foreign.items n.news news
    c.requires.within c.requires.named c.requires.some c.in_ok-told.told c.take_to-outcome.new.self h in
    let kept =
    news-stands m rules client c.requires.stands c.requires.bare c.args.other c.args.own c.args.foreign.items n.news news
    c.requires.within c.requires.named n.ensures.short in
    let s : Stands m rules c.keep.new.self = rw (c.in_ok-keep.ensures.kept, c.version-since.ensures) kept in
    let kin = c.forget.ensures.kin rules s.first s.log (c.take_to-outcome.ensures.kin s.first s.log s.kin) in
    back-leads m rules g.met.C.Change.laws client c.requires.stands c.args.own news.middle news.middle_is c.args.foreign.items new.pending new.base new.doc
    (rw c.forget.ensures.forgets reach) kin.doc_is n.news.back news.back_is

pub returns-clause-kin : goal.returns-clause-kin
returns-clause-kin g c first log kin =
    let n = c.in_ok-news in
    let client = c.args.client.now in
    let rules = c.args.rules.now in
    let on =
    news-kin g.C.Change.means rules client c.requires.stands c.requires.bare c.args.other c.args.own c.args.foreign.items n.news n.ensures.news
    c.requires.within c.requires.named first log kin in
    let to = take client.version log ++ heard client c.args.other c.args.own c.args.foreign.items in
    c.forget.ensures.kin rules first to (c.take_to-outcome.ensures.kin first to (rw (c.in_ok-keep.ensures.kept, c.version-since.ensures) on))
