-- The reasons for which a frame is dropped.
use Rattle.std.specs.Prelude.{ℕ, List, [], ◌∷◌, ◌++◌, codes, slice_get, unwrap_or}
use Rattle.std.specs.Fmt.{decimal}
use Rattle.pb_frame.specs.declared.reason.Reason.{Reason}
use Rattle.pb_frame.specs.declared.reason.Reason.TheVariants.{NotForwarding, NotMember, Untagged, Reserved, Malformed, Worn, Memory, STagged, Long}

abbrev pub reason_word : Reason → List ℕ
reason_word NotForwarding = codes "not-forwarding"
reason_word NotMember = codes "not-member"
reason_word Untagged = codes "untagged"
reason_word (Reserved number) = codes "reserved-" ++ decimal number
reason_word Malformed = codes "malformed"
reason_word Worn = codes "worn"
reason_word Memory = codes "memory"
reason_word STagged = codes "s-tagged"
reason_word Long = codes "long"

-- the words for counts of dropped frames, by the number of the count
abbrev pub drop_words : List (List ℕ)
drop_words =
    codes "not-forwarding" ∷ codes "not-member" ∷ codes "untagged" ∷ codes "reserved" ∷ codes "malformed"
    ∷ codes "worn" ∷ codes "memory" ∷ codes "s-tagged" ∷ codes "long" ∷ []

-- the word for the count of this number: every other number is that of frames that were relayed to no port
abbrev pub drop_word : ℕ → List ℕ
drop_word number = unwrap_or (slice_get drop_words number) (codes "no-port")
