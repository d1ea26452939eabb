-- One room more is opened.
use Rattle.std.proofs.Common.{◌≡◌, ℕ, suc, ◌+◌, List, [], ◌∷◌, ◌++◌, length, map, sym, ap, ap₂, ◌∙◌, subst, arith, append_assoc, append-nil}
use Rattle.std.proofs.lemmas.List.{map-append}
use Rattle.pm_change.specs.Changes.{Meaning}
use Rattle.pm_authority.specs.declared.authority.Authority.{Authority}
use Rattle.pm_desk.specs.Desks.{DeskValue}
use Rattle.pm_rooms.specs.declared.new_room.NewRoom.{NewRoom}
use Rattle.pm_rooms.specs.declared.opening.Opened.{Opened}
use Rattle.pm_rooms.specs.Handed.{Matched}
use Rattle.pm_rooms.specs.Opened.{new_stands, all_stands, IsRoomFile, IsDeskOf}
use Rattle.pm_rooms.specs.Openings.{AreOpened, IsOpenedToo}
use Rattle.pm_rooms.proofs.Dealt.{matched-push, matched-length}

module _ {Rules Doc Reason C Op : Type 0} where
  -- the stands of one room more
  stands-more : (k : ℕ) (rooms : List (NewRoom C Op Rules Doc Reason)) (desks : List (DeskValue (Authority C Rules Doc Reason) Rules)) (room : NewRoom C Op Rules Doc Reason) (d : DeskValue (Authority C Rules Doc Reason) Rules)
      → length desks ≡ length rooms → all_stands k (rooms ++ room ∷ []) (desks ++ d ∷ []) ≡ all_stands k rooms desks ++ new_stands (k + length desks) room d
  stands-more k [] [] room d e = let n : k ≡ k + 0 = omega arith in append-nil (new_stands k room d) ∙ ap (λ j. new_stands j room d) n
  stands-more k [] (b ∷ desks) room d e = absurd (omega (arith, e))
  stands-more k (q ∷ rooms) [] room d e = absurd (omega (arith, e))
  stands-more k (q ∷ rooms) (b ∷ desks) room d e =
      let n : (k + 1) + length desks ≡ k + suc (length desks) = omega arith in
      ap (λ l. new_stands k q b ++ l) (stands-more (k + 1) rooms desks room d (omega (arith, e)))
      ∙ sym (append_assoc (new_stands k q b) (all_stands (k + 1) rooms desks) (new_stands ((k + 1) + length desks) room d))
      ∙ ap (λ j. (new_stands k q b ++ all_stands (k + 1) rooms desks) ++ new_stands j room d) n

  pub opened-more : (m : Meaning Rules Doc Reason C) (rooms : List (NewRoom C Op Rules Doc Reason)) (o p : Opened C Op Rules Doc Reason) (room : NewRoom C Op Rules Doc Reason)
      → AreOpened m rooms o → IsOpenedToo m o room p → AreOpened m (rooms ++ room ∷ []) p
  opened-more m rooms o p room h e =
      let long : length o.desks.items ≡ length rooms = matched-length (λ room d. IsDeskOf m room d) rooms o.desks.items h.desks in
      let z : 0 + length o.desks.items ≡ length o.desks.items = omega arith in
      record {
        desks = subst (λ l. Matched (λ room d. IsDeskOf m room d) (rooms ++ room ∷ []) l) (sym e.desks) (matched-push (λ room d. IsDeskOf m room d) rooms o.desks.items room e.d h.desks e.desk_is);
        filed = subst (λ l. Matched (λ room file. IsRoomFile room file) (rooms ++ room ∷ []) l) (sym e.files) (matched-push (λ room file. IsRoomFile room file) rooms o.files.items room e.file h.filed e.file_is);
        stands = e.stands ∙ ap₂ (λ a b. a ++ new_stands b room e.d) h.stands (sym z) ∙ sym (stands-more 0 rooms o.desks.items room e.d long) ∙ ap (all_stands 0 (rooms ++ room ∷ [])) (sym e.desks);
        people = ap (map (λ l. l.items)) e.people ∙ map-append (λ l. l.items) o.people.items (room.people ∷ []) ∙ ap (λ l. l ++ room.people.items ∷ []) h.people ∙ sym (map-append (λ r. r.people.items) rooms (room ∷ []));
        lines = e.lines ∙ ap (λ l. l ++ room.lines ∷ []) h.lines ∙ sym (map-append (λ r. r.lines) rooms (room ∷ []));
      }
