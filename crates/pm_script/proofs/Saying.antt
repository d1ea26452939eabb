-- What the words of op lines make, and who may say them.
use Rattle.std.proofs.Common.{◌≡◌, ℕ, Bool, true, false, List, refl, subst, Result, Ok}
use Rattle.std.specs.Prelude.{nat_lt, nat_le, codes, Option, Some, None, if◌then◌else◌}
use Rattle.std.proofs.lemmas.Bool.{ltb-true, leb-true}
use Rattle.serde_json.specs.Data.{Data}
use Rattle.pm_list.specs.Readings.{◌>>=◌}
use Rattle.pm_schema.specs.declared.spec.SchemaSpec.{SchemaSpec}
use Rattle.pm_head.specs.declared.form.Form.TheVariants.{Plain}
use Rattle.pm_head.specs.declared.code.Code.{Code}
use Rattle.pm_meaning.specs.Steps.{Step}
use Rattle.pm_ops.specs.declared.op.Op.{Op}
use Rattle.pm_session.specs.declared.line.Act.{Act}
use Rattle.pm_session.specs.declared.line.Act.TheVariants.{Edit, Undo, Redo, UndoEvent, Cursor, Submit, Ask, Present, Take, Push, Pull, Forge, Enter}
use Rattle.pm_session.specs.Suits.{is_forge, enters, names_one, NamesOneOf}
use Rattle.pm_opjson.specs.declared.kinds.EditKind.{EditKind}
use Rattle.pm_script.specs.declared.word.Word.{Word}
use Rattle.pm_script.specs.declared.word.Word.TheVariants as word
use Rattle.pm_opjson.specs.Fields.{number_in, lost_in, side_in, event_in}
use Rattle.pm_opjson.specs.Words.{says, edit_named}
use Rattle.pm_script.specs.Words.{exchange_named, or_word, word_named, may_say, in_turn}
use Rattle.pm_opjson.specs.Ops.{op_of}
use Rattle.pm_opjson.specs.Parts.{steps_in}
use Rattle.pm_script.specs.Acts.{edit_in, cursor_in, forge_in, act_in}
use Rattle.pm_script.proofs.Came.{then-ok, both-true}

-- ---- what the words make

-- whether the act forges, and whether it enters
abbrev pub IsMade : Bool → Bool → Act Op Step → Type 0
IsMade forge enter act = (is_forge act ≡ forge) × (enters act ≡ enter)

edit-made : (s : SchemaSpec) (kind : EditKind) (d : Data) (act : Act Op Step) → edit_in s kind d ≡ Ok act → IsMade false false act
unfolding edit_in
edit-made s kind d act h =
    let one = then-ok (op_of s kind d) _ act h in
    let two = then-ok (event_in d) _ act one.2 in
    let is : Edit one.0 two.0 ≡ act = cc in
    subst (IsMade false false) is (refl, refl)

cursor-made : (d : Data) (act : Act Op Step) → cursor_in d ≡ Ok act → IsMade false false act
unfolding cursor_in
cursor-made d act h =
    let one = then-ok (number_in (codes "pos") d) _ act h in
    let two = then-ok (side_in d) _ act one.2 in
    let is : Cursor one.0 two.0 ≡ act = cc in
    subst (IsMade false false) is (refl, refl)

forge-made : (s : SchemaSpec) (d : Data) (act : Act Op Step) → forge_in s d ≡ Ok act → IsMade true false act
unfolding forge_in
forge-made s d act h =
    let one = then-ok (number_in (codes "version") d) _ act h in
    let two = then-ok (steps_in s d) _ act one.2 in
    let is : Forge one.0 two.0 ≡ act = cc in
    subst (IsMade true false) is (refl, refl)

one-made : {A : Type 0} (r : Result A Code) (make : A → Act Op Step) (act : Act Op Step) → ((x : A) → IsMade false false (make x)) → (r >>= (λ x. Ok (make x))) ≡ Ok act → IsMade false false act
one-made r make act all h =
    let one = then-ok r _ act h in
    let is : make one.0 ≡ act = cc in
    subst (IsMade false false) is (all one.0)

abbrev done : Act Op Step → Result (Act Op Step) Code
done a = Ok a

plain-made : (enter : Bool) (a act : Act Op Step) → IsMade false enter a → done a ≡ done act → IsMade false enter act
plain-made enter a act made h = let is : a ≡ act = cc in subst (IsMade false enter) is made

-- the word is `forge`
abbrev pub says_forge : Word → Bool
says_forge (word.Edit kind) = false
says_forge word.Undo = false
says_forge word.Redo = false
says_forge word.UndoEvent = false
says_forge word.Cursor = false
says_forge word.Submit = false
says_forge word.Ask = false
says_forge word.Present = false
says_forge word.Take = false
says_forge word.Push = false
says_forge word.Pull = false
says_forge word.Forge = true
says_forge word.Enter = false

-- the word is `enter`
abbrev pub is_enter : Word → Bool
is_enter (word.Edit kind) = false
is_enter word.Undo = false
is_enter word.Redo = false
is_enter word.UndoEvent = false
is_enter word.Cursor = false
is_enter word.Submit = false
is_enter word.Ask = false
is_enter word.Present = false
is_enter word.Take = false
is_enter word.Push = false
is_enter word.Pull = false
is_enter word.Forge = false
is_enter word.Enter = true

pub act-made : (s : SchemaSpec) (w : Word) (d : Data) (act : Act Op Step) → act_in s w d ≡ Ok act → IsMade (says_forge w) (is_enter w) act
act-made s (word.Edit kind) d act h = edit-made s kind d act h
act-made s word.Undo d act h = plain-made false Undo act (refl, refl) h
act-made s word.Redo d act h = plain-made false Redo act (refl, refl) h
act-made s word.UndoEvent d act h = one-made (number_in (codes "event") d) UndoEvent act (λ n. (refl, refl)) h
act-made s word.Cursor d act h = cursor-made d act h
act-made s word.Submit d act h = plain-made false Submit act (refl, refl) h
act-made s word.Ask d act h = plain-made false Ask act (refl, refl) h
act-made s word.Present d act h = one-made (number_in (codes "message") d) Present act (λ n. (refl, refl)) h
act-made s word.Take d act h = one-made (number_in (codes "answer") d) Take act (λ n. (refl, refl)) h
act-made s word.Push d act h = one-made (lost_in d) Push act (λ b. (refl, refl)) h
act-made s word.Pull d act h = one-made (lost_in d) Pull act (λ b. (refl, refl)) h
act-made s word.Forge d act h = forge-made s d act h
act-made s word.Enter d act h = plain-made true Enter act (refl, refl) h

-- ---- who may say them

-- of the words but `enter` a client says `forge` exactly where it is raw
pub kind-said : (raw : Bool) (cursors : ℕ) (w : Word) → is_enter w ≡ false → may_say raw cursors w ≡ true → says_forge w ≡ raw
kind-said true cursors (word.Edit kind) e h = absurd (cc)
kind-said true cursors word.Undo e h = absurd (cc)
kind-said true cursors word.Redo e h = absurd (cc)
kind-said true cursors word.UndoEvent e h = absurd (cc)
kind-said true cursors word.Cursor e h = absurd (cc)
kind-said true cursors word.Submit e h = absurd (cc)
kind-said true cursors word.Ask e h = absurd (cc)
kind-said true cursors word.Present e h = absurd (cc)
kind-said true cursors word.Take e h = absurd (cc)
kind-said true cursors word.Push e h = absurd (cc)
kind-said true cursors word.Pull e h = absurd (cc)
kind-said true cursors word.Forge e h = refl
kind-said true cursors word.Enter e h = absurd (cc)
kind-said false cursors (word.Edit kind) e h = refl
kind-said false cursors word.Undo e h = refl
kind-said false cursors word.Redo e h = refl
kind-said false cursors word.UndoEvent e h = refl
kind-said false cursors word.Cursor e h = refl
kind-said false cursors word.Submit e h = refl
kind-said false cursors word.Ask e h = refl
kind-said false cursors word.Present e h = refl
kind-said false cursors word.Take e h = refl
kind-said false cursors word.Push e h = refl
kind-said false cursors word.Pull e h = refl
kind-said false cursors word.Forge e h = absurd (cc)
kind-said false cursors word.Enter e h = absurd (cc)

-- who says `enter` in its turn is due to enter
pub due-said : (due : Bool) (w : Word) → is_enter w ≡ true → in_turn due w ≡ true → due ≡ true
due-said due (word.Edit kind) e h = absurd (cc)
due-said due word.Undo e h = absurd (cc)
due-said due word.Redo e h = absurd (cc)
due-said due word.UndoEvent e h = absurd (cc)
due-said due word.Cursor e h = absurd (cc)
due-said due word.Submit e h = absurd (cc)
due-said due word.Ask e h = absurd (cc)
due-said due word.Present e h = absurd (cc)
due-said due word.Take e h = absurd (cc)
due-said due word.Push e h = absurd (cc)
due-said due word.Pull e h = absurd (cc)
due-said due word.Forge e h = absurd (cc)
due-said due word.Enter e h = h

-- ---- the word that a text is

abbrev IsOther : Option Word → Type 0
IsOther None = Unit {0}
IsOther (Some w) = is_enter w ≡ false

chosen : (b : Bool) (x y : Option Word) → IsOther x → IsOther y → IsOther (if b then x else y)
chosen true x y p q = p
chosen false x y p q = q

exchange-other : (text : List ℕ) → IsOther (exchange_named text)
exchange-other text =
    chosen (says text (codes "submit")) _ _ refl
    (chosen (says text (codes "ask")) _ _ refl
    (chosen (says text (codes "present")) _ _ refl
    (chosen (says text (codes "take")) _ _ refl
    (chosen (says text (codes "push")) _ _ refl
    (chosen (says text (codes "pull")) _ _ refl
    (chosen (says text (codes "forge")) _ _ refl tt))))))

or-other : (e : Option EditKind) (o : Option Word) → IsOther o → IsOther (or_word e o)
or-other None o h = h
or-other (Some edit) o h = refl

named-other : (text : List ℕ) → IsOther (word_named Plain text)
named-other text =
    or-other (edit_named text) _
    (chosen (says text (codes "undo")) _ _ refl
    (chosen (says text (codes "redo")) _ _ refl
    (chosen (says text (codes "undoevent")) _ _ refl
    (chosen (says text (codes "cursor")) _ _ refl
    (exchange-other text)))))

-- no text is `enter` where every client is there from the first line on
pub plain-other : (text : List ℕ) (w : Word) → word_named Plain text ≡ Some w → is_enter w ≡ false
plain-other text w h = subst IsOther h (named-other text)

-- ---- what they name

pub names : (messages answers : ℕ) (act : Act Op Step) → names_one messages answers act ≡ true → NamesOneOf messages answers act
names messages answers (Edit op event) h = tt
names messages answers Undo h = tt
names messages answers Redo h = tt
names messages answers (UndoEvent n) h = tt
names messages answers (Cursor at side) h = tt
names messages answers Submit h = tt
names messages answers Ask h = tt
names messages answers (Present j) h = let b = both-true (nat_lt 0 j) (nat_le j messages) h in (ltb-true 0 j b.0, leb-true j messages b.1)
names messages answers (Take n) h = let b = both-true (nat_lt 0 n) (nat_le n answers) h in (ltb-true 0 n b.0, leb-true n answers b.1)
names messages answers (Push lost) h = tt
names messages answers (Pull lost) h = tt
names messages answers (Forge version steps) h = tt
names messages answers Enter h = absurd (cc)
