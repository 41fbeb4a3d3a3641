-- What a step of the model touches, and the names for which it keeps what it does not touch.
use Rattle.std.specs.Prelude.{◌≡◌, ◌<◌, ◌⊎◌, ◌==◌, ℕ, pos, Bool, true, false, List, Some, length}
use Rattle.dl_term.specs.State.{State, soup_at, message_at, tag_of}
use Rattle.dl_term.specs.Names.{Names, Stored, label_of}
use Rattle.dl_model.specs.declared.protocol.Instances.{Instances}
use Rattle.dl_model.specs.Lookup.{tag_at}
use Rattle.dl_model.specs.Words.{me_word}
use Rattle.dl_model.specs.Steps.{Step, Sending, Receiving, message_in, receive_at}
use Rattle.dl_inv.specs.Touched.{Touch, fields_of}

-- the touch of a step of a tag at a label, where `self` stands for the label `own`
abbrev pub touch_at : (own label tag : ℕ) (fields : List ℕ) (grows spares_me : Bool) → Touch
touch_at own label tag fields grows spares_me =
    record { here = λ l. label_of own l == label; tag = tag; fields = fields; grows = grows; spares_me = spares_me }

abbrev pub touch_of : Instances → State → (own : ℕ) → (spares_me : Bool) → Step → Touch
touch_of inst state own spares_me (Sending label tag to args) =
    touch_at own label tag (fields_of (tag_at inst label tag).send.updates) true spares_me
touch_of inst state own spares_me (Receiving label id) =
    touch_at own label (message_in state label id).tag (fields_of (receive_at inst label (message_in state label id)).updates) false spares_me

-- The names are those of a node other than the one that makes the step, where it is to be another, and of `self` as the label
-- `own`. Their messages are in the state, and the step at the label takes none of them but those in `live`.
pub record Known (own label : ℕ) (touch : Touch) (mover : ℕ) (live : ℕ → Bool) (names : Names) (state : State) : Type 0 where
  pub own_label : names.own ≡ own
  pub me : touch.spares_me ≡ true → names.number me_word ≡ pos mover → ⊥
  pub known : (m label id : ℕ) → names.message m ≡ Some (Stored label id) → id < length (soup_at state label)
  pub live_only : (m at id : ℕ) → names.message m ≡ Some (Stored at id) → live m ≡ false →
      (at ≡ label → ⊥) ⊎ ((touch.grows ≡ true) ⊎ (tag_of (message_at state at id) ≡ touch.tag → ⊥))
