-- A house whose submissions have a limit of work.
use Rattle.std.specs.Prelude.{◌≡◌, ℕ, nat_lt, Bool, true, false, List, slice_get, codes, Option, Some, None, Result, Ok, Err, MatchBool}
use Rattle.serde_json.specs.Data.{Data}
use Rattle.pm_schema.specs.Names.{place_of}
use Rattle.pm_head.specs.declared.code.Code.{Code}
use Rattle.pm_head.specs.Lines.{json_line}
use Rattle.pm_opjson.specs.Fields.{text_in}
use Rattle.pm_talk.specs.Texts.{fault_text}
use Rattle.pm_talk.specs.Work.{works}
use Rattle.pm_talk.specs.Limited.{limit_text}
use Rattle.pm_order.specs.declared.word.DocWord.{DocWord}
use Rattle.pm_order.specs.declared.word.Word.{Word}
use Rattle.pm_order.specs.declared.word.Word.TheVariants as word
use Rattle.pm_order.specs.declared.wish.Wish.{Wish}
use Rattle.pm_order.specs.declared.wish.Wish.TheVariants.{Submit, Since, Doc, Forget, Map, Revert, Edit, Authors}
use Rattle.pm_order.specs.Words.{word_in}
use Rattle.pm_order.specs.Wishes.{wish_in}
use Rattle.pm_archive.specs.declared.archive.Archive.{Archive}
use Rattle.pm_house.specs.declared.house.House.{House}
use Rattle.pm_house.specs.declared.limited.LimitedHouse.{LimitedHouse}
use Rattle.pm_house.specs.Found.{names_of}
use Rattle.pm_house.specs.Houses.{IsGood}
use Rattle.pm_house.specs.Replies.{Says, OfValue, Replies, last_text}

-- ---- which lines are over the limit

-- what is asked of a document is to submit steps that are more work together than the limit
abbrev pub is_over : ℕ → Result Wish Code → Bool
is_over limit (Ok (Submit version id steps)) = nat_lt limit (works steps)
is_over limit (Ok (Since version most)) = false
is_over limit (Ok (Doc version)) = false
is_over limit (Ok (Forget version)) = false
is_over limit (Ok (Map from to anchors)) = false
is_over limit (Ok (Revert id version count)) = false
is_over limit (Ok (Edit id op)) = false
is_over limit (Ok (Authors from)) = false
is_over limit (Err code) = false

-- so of a value with this word, and of the document that it names, if that is open
abbrev pub is_over_for : ℕ → DocWord → Data → Option Archive → Bool
is_over_for limit w d (Some a) = is_over limit (wish_in a.schema.spec w d)
is_over_for limit w d None = false

abbrev pub is_over_at : ℕ → House → DocWord → Data → Option ℕ → Bool
is_over_at limit h w d (Some place) = is_over_for limit w d (slice_get h.documents place)
is_over_at limit h w d None = false

abbrev pub is_over_in : ℕ → House → DocWord → Data → Result (List ℕ) Code → Bool
is_over_in limit h w d (Ok name) = is_over_at limit h w d (place_of name (names_of h.documents))
is_over_in limit h w d (Err code) = false

abbrev pub is_over_by : ℕ → House → Data → Result Word Code → Bool
is_over_by limit h d (Ok (word.In w)) = is_over_in limit h w d (text_in (codes "in") d)
is_over_by limit h d (Ok word.Schema) = false
is_over_by limit h d (Ok word.Open) = false
is_over_by limit h d (Ok word.Close) = false
is_over_by limit h d (Ok word.Documents) = false
is_over_by limit h d (Ok word.Statistics) = false
is_over_by limit h d (Err code) = false

-- ---- what is answered

-- A value that is over is told the limit, and changes nothing. Any other is answered as without a limit.
abbrev pub ValueBelow : ℕ → House → Data → List ℕ → House → Type 0
ValueBelow limit h d text next = MatchBool (is_over_by limit h d (word_in d)) (Says (limit_text limit) h text next) (OfValue h d text next)

abbrev pub LineBelow : ℕ → House → Result Data Code → List ℕ → House → Type 0
LineBelow limit h (Ok d) text next = ValueBelow limit h d text next
LineBelow limit h (Err code) text next = Says (fault_text code) h text next

-- what a line is answered, and what the house is then
abbrev pub RepliesBelow : Option ℕ → House → List ℕ → List ℕ → House → Type 0
RepliesBelow None h line text next = Replies h line text next
RepliesBelow (Some limit) h line text next = LineBelow limit h (json_line line) text next

-- so of a house with its limit, which stays; and further lines are answered
abbrev pub ServingWithin : LimitedHouse → List ℕ → List ℕ → Bool → LimitedHouse → Type 0
ServingWithin t line text more next = RepliesBelow t.limit t.house line text next.house × (more ≡ true) × (next.limit ≡ t.limit)

abbrev pub IsGoodWithin : LimitedHouse → Type 0
IsGoodWithin t = IsGood t.house

abbrev pub last_within : LimitedHouse → List ℕ
last_within t = last_text t.house
