-- The items of one mark that was handled under a forest: each came by a walk that never turns back.
use Rattle.std.proofs.Common.{◌≡◌, ℕ, Some, None, Option, true, ◌==◌, List, [], ◌∷◌, ◌++◌, refl, sym, ◌∙◌, ap, subst}
use Rattle.std.proofs.Common.{◌+◌, length}
use Rattle.std.specs.Cmp.Derive.{both_true}
use Rattle.std.specs.List.{AllByRecursion, list_any}
use Rattle.pb_frame.proofs.Lists.{Some-injective, All-imply, list_any-midst}
use Rattle.pb_frame.proofs.Parts.{All-part}
use Rattle.pb_lan.proofs.Arrivals.{MayComeIn, MayGoOut, arrivals-spread}
use Rattle.pb_lan.proofs.Carriage.{Spreads, queued-all, received-all}
use Rattle.pb_lan.proofs.ForestEdges.{trees_of}
use Rattle.pb_lan.proofs.Handled.{unmoved, handled-at, carried-vid, marked-port}
use Rattle.pb_lan.proofs.Onward.{IsSent, Origin, NotBack, ComesBy, IsCarriedOn, relayed-on}
use Rattle.pb_lan.proofs.PortsInPlans.{end-of-far, port_at-customer, port_at-end}
use Rattle.pb_lan.proofs.ReceivedWasSent.{out-part, departed-part}
use Rattle.pb_lan.proofs.Rulings.{follows-relayed, chosen-there}
use Rattle.pb_lan.proofs.SentWasQueued.{transmitted-All, AllQueued}
use Rattle.pb_lan.proofs.UniqueWalks.{walk-unique}
use Rattle.pb_lan.specs.BridgeLists.{ruling, Follows}
use Rattle.pb_lan.specs.Counts.{has_mark, is_of, HandledAfter, IsHandledUnder}
use Rattle.pb_lan.specs.Forests.{Shows, IsForest}
use Rattle.pb_lan.specs.Laws.{is_choice, IsTraced}
use Rattle.pb_lan.specs.Numbering.{numbered}
use Rattle.pb_lan.specs.Plans.{IsSound}
use Rattle.pb_lan.specs.PortLists.{delivered, departed}
use Rattle.pb_lan.specs.Ports.{port_at, vid_at}
use Rattle.pb_lan.specs.Queues.{copy_of}
use Rattle.pb_lan.specs.Records.{IsLawfulRecord, steps_of, transmitted, received}
use Rattle.pb_lan.specs.Rules.{Rules}
use Rattle.pb_lan.specs.Shapes.{state_after, moved_part}
use Rattle.pb_frame.specs.declared.learnt.Learnt.{Learnt}
use Rattle.pb_lan.specs.declared.plan.CustomerPlan.{CustomerPlan}
use Rattle.pb_lan.specs.declared.plan.Plan.{Plan}
use Rattle.pb_lan.specs.declared.record.Record.{Record}
use Rattle.pb_lan.specs.declared.shape.Rooted.{Rooted}
use Rattle.pb_lan.specs.declared.shape.Shape.{Shape}
use Rattle.pb_lan.specs.declared.step.Item.{Item}
use Rattle.pb_lan.specs.declared.step.Mark.{Mark}
use Rattle.pb_lan.specs.declared.step.Moved.{Moved}
use Rattle.pb_lan.specs.declared.step.NoRoom.{NoRoom}
use Rattle.pb_lan.specs.declared.step.Outcome.TheVariants.{Relayed}
use Rattle.pb_lan.specs.declared.step.Step.{Step}
use Rattle.pb_lan.specs.declared.step.Step.TheVariants.{Receive}

-- the item may be received at the port, and came by a walk if it has the mark
abbrev pub ComesIn : Plan → Record → Shape → ℕ → CustomerPlan → Mark → ℕ → ℕ → Item → Type 0
ComesIn plan rec shape vid entry mark b q item = MayComeIn plan rec (port_at plan b q) item
    × (is_of mark item ≡ true → ComesBy plan shape rec mark vid entry (port_at plan b q) b q item)

-- the item may be queued at the port, and goes on from a walk if it has the mark
abbrev pub GoesOut : Plan → Record → Shape → ℕ → CustomerPlan → Mark → ℕ → ℕ → Item → Type 0
GoesOut plan rec shape vid entry mark b r item = MayGoOut plan rec (port_at plan b r) item
    × (is_of mark item ≡ true → IsSent plan shape rec mark vid entry b r item)

-- the mark entered at this customer port of a sound plan, and was handled under a forest with this certificate in a
-- lawful record
pub record IsFollowed (rules : Rules) (plan : Plan) (rec : Record) (shape : Shape) (entry : CustomerPlan)
    (mark : Mark) (rooted : Rooted) : Type 0 where
  pub sound : IsSound plan
  pub lawful : IsLawfulRecord rules plan rec
  pub shows : Shows plan shape (vid_at plan entry) rooted
  pub planned : numbered plan.customers mark.port ≡ Some entry
  pub handled : IsHandledUnder plan shape rec mark

-- a mark that was handled under a forest is one for each certificate of the forest
pub traced-followed : (rules : Rules) (plan : Plan) (rec : Record) → IsSound plan → IsLawfulRecord rules plan rec
    → (shape : Shape) (mark : Mark) (entry : CustomerPlan) → IsTraced plan shape rec mark entry
    → (forest : IsForest plan shape (vid_at plan entry)) → IsFollowed rules plan rec shape entry mark forest.0
traced-followed rules plan rec sound lawful shape mark entry traced forest = record {
  sound = sound;
  lawful = lawful;
  shows = forest.1;
  planned = traced.planned;
  handled = traced.handled;
}

-- a relayed item of the mark goes on from a walk
pub relays-sent : (rules : Rules) (plan : Plan) (rec : Record) (shape : Shape) (entry : CustomerPlan) (mark : Mark)
    (rooted : Rooted)
    → IsFollowed rules plan rec shape entry mark rooted
    → (b r : ℕ) (earlier later : List Step) (q : ℕ) (item : Item) (learnt : Option Learnt) (chosen : List ℕ)
    (refused : List (ℕ × NoRoom)) (moved : Option Moved)
    → earlier ++ Receive q item learnt (Relayed chosen refused) moved ∷ later ≡ steps_of rec.bridges b
    → Follows rules plan b earlier q item learnt (Relayed chosen refused) moved (ruling rules plan b earlier q item)
    → list_any (λ p. p == r) chosen ≡ true → ComesIn plan rec shape (vid_at plan entry) entry mark b q item
    → MayGoOut plan rec (port_at plan b r) (copy_of plan (port_at plan b q) (port_at plan b r) item)
    × (is_of mark item ≡ true → (s : IsSent plan shape rec mark (vid_at plan entry) entry b r
    (copy_of plan (port_at plan b q) (port_at plan b r) item)) × Origin plan entry b q s.way)
relays-sent rules plan rec shape entry mark rooted followed b r earlier later q item learnt chosen refused moved at
    follows contains known =
    let step = Receive q item learnt (Relayed chosen refused) moved in
    let f = follows-relayed rules plan b earlier q item learnt chosen refused moved
    (ruling rules plan b earlier q item) follows in (
      (arrivals-spread rules plan rec followed.sound).relays b r earlier later q item learnt chosen refused moved at
          follows contains known.0,
      λ m.
          let k : IsCarriedOn rules plan rec shape entry mark rooted b q r item = record {
            sound = followed.sound;
            shows = followed.shows;
            earlier = earlier;
            steps = earlier ++ step ∷ [];
            vid = f.0;
            vid_is = sym (carried-vid rules plan rec entry mark followed.sound followed.planned (port_at plan b q)
                (state_after plan b earlier q) item f.0 known.0 f.1 m);
            handled = handled-at plan shape mark b [] earlier later step
                (subst (HandledAfter plan shape mark b []) (sym at) (followed.handled b)) m;
            same_state = unmoved plan b earlier step (ap moved_part f.3) r;
            choice = chosen-there rules plan b r earlier q item learnt chosen refused moved follows contains;
            chosen = subst (λ steps. list_any (is_choice mark r) steps ≡ true) at
                (list_any-midst (is_choice mark r) earlier step later (both_true m contains));
            carried = f.1;
          } in
          relayed-on k (port_at plan b q) refl (known.1 m),
    )

-- the two properties spread over the record
walks : (rules : Rules) (plan : Plan) (rec : Record) (shape : Shape) (entry : CustomerPlan) (mark : Mark)
    (rooted : Rooted)
    → IsFollowed rules plan rec shape entry mark rooted
    → Spreads rules plan rec (ComesIn plan rec shape (vid_at plan entry) entry mark)
    (GoesOut plan rec shape (vid_at plan entry) entry mark)
walks rules plan rec shape entry mark rooted followed = record {
  enters = λ k c at item e. (
    arrivals.enters k c at item e,
    λ m.
        let p : mark.port ≡ k = marked-port mark item k e.0 e.1 m in
        let one : c ≡ entry = Some-injective (sym at ∙ sym (ap (numbered plan.customers) p) ∙ followed.planned) in
        subst (λ p. ComesBy plan shape rec mark v entry p c.bridge c.port item)
        (sym (port_at-customer plan followed.sound k c at)) (ap (λ d. d.bridge) one, ap (λ d. d.port) one, e.2),
  );
  crosses = λ k link near far at ends item q. (
    arrivals.crosses k link near far at ends item q.0,
    λ m. subst (λ p. ComesBy plan shape rec mark v entry p far.bridge far.port item)
        (sym (port_at-end plan followed.sound k link far at (end-of-far link near far ends)))
        (record {
          number = k;
          link = link;
          near = near;
          far = far;
          numbered_so = at;
          ends = ends;
          bridge = refl;
          port = refl;
          sent = q.1 m;
        }),
  );
  unused = λ b q h item. (
    arrivals.unused b q h item,
    λ m. subst (λ p. ComesBy plan shape rec mark v entry p b q item)
        (sym h) tt,
  );
  own = λ b q item o. (
    arrivals.own b q item o,
    λ m.
        let h : has_mark mark None ≡ true = subst (λ w. has_mark mark w ≡ true) o.0 m in cc,
  );
  relays = λ b r earlier later q item learnt chosen refused moved at follows contains known.
      let x = relays-sent rules plan rec shape entry mark rooted followed b r earlier later q item learnt chosen
      refused moved at follows contains known in
      (x.0, λ m. (x.1 m).0);
}
  where
    v : ℕ
    v = vid_at plan entry

    arrivals : Spreads rules plan rec (λ b q. MayComeIn plan rec (port_at plan b q))
        (λ b r. MayGoOut plan rec (port_at plan b r))
    arrivals = arrivals-spread rules plan rec followed.sound

-- the item was sent to the customer port after a walk, if it has the mark
abbrev pub IsSentTo : Plan → Shape → Record → Mark → CustomerPlan → CustomerPlan → Item → Type 0
IsSentTo plan shape rec mark entry c item =
    is_of mark item ≡ true → IsSent plan shape rec mark (vid_at plan entry) entry c.bridge c.port item

-- where items of such a mark are
module _ (rules : Rules) (plan : Plan) (rec : Record) (shape : Shape) (entry : CustomerPlan) (mark : Mark)
    (rooted : Rooted) (followed : IsFollowed rules plan rec shape entry mark rooted) where
  -- each queued item of the mark goes on from a walk
  pub queued-walks : (b r : ℕ) → AllQueued (GoesOut plan rec shape (vid_at plan entry) entry mark b r) plan b r
      (steps_of rec.bridges b)
  queued-walks = queued-all rules plan rec (ComesIn plan rec shape (vid_at plan entry) entry mark)
      (GoesOut plan rec shape (vid_at plan entry) entry mark)
      (walks rules plan rec shape entry mark rooted followed) followed.lawful

  -- each received item of the mark came by a walk
  pub received-walks : (b q : ℕ) → AllByRecursion (ComesIn plan rec shape (vid_at plan entry) entry mark b q)
      (received q (steps_of rec.bridges b))
  received-walks = received-all rules plan rec (ComesIn plan rec shape (vid_at plan entry) entry mark)
      (GoesOut plan rec shape (vid_at plan entry) entry mark)
      (walks rules plan rec shape entry mark rooted followed) followed.lawful

  -- each delivered item of the mark was sent after a walk
  pub delivered-sent : (number : ℕ) (c : CustomerPlan) → numbered plan.customers number ≡ Some c
      → AllByRecursion (λ item. is_of mark item ≡ true → IsSent plan shape rec mark (vid_at plan entry) entry c.bridge
      c.port item) (delivered (steps_of rec.customers number))
  delivered-sent number c at =
      All-imply (GoesOut plan rec shape (vid_at plan entry) entry mark c.bridge c.port)
      (IsSentTo plan shape rec mark entry c) (λ item h. h.1) (delivered (steps_of rec.customers number))
      (All-part (GoesOut plan rec shape (vid_at plan entry) entry mark c.bridge c.port)
      (delivered (steps_of rec.customers number)) (transmitted c.port (steps_of rec.bridges c.bridge))
      (out-part rec number c (followed.lawful.customers number c at))
      (transmitted-All (GoesOut plan rec shape (vid_at plan entry) entry mark c.bridge c.port) rules plan c.bridge
      c.port [] (steps_of rec.bridges c.bridge) (followed.lawful.bridges c.bridge) tt
      (queued-walks c.bridge c.port)))

  -- each item of the mark that left was sent after a walk
  pub departed-sent : (number : ℕ) (c : CustomerPlan) → numbered plan.customers number ≡ Some c
      → AllByRecursion (IsSentTo plan shape rec mark entry c) (departed (steps_of rec.customers number))
  departed-sent number c at =
      All-part (IsSentTo plan shape rec mark entry c) (departed (steps_of rec.customers number))
      (delivered (steps_of rec.customers number)) (departed-part (steps_of rec.customers number))
      (delivered-sent number c at)

  -- all items of the mark that are delivered at a port have as many hops as any item that was sent there
  pub delivered-hops : (number : ℕ) (c : CustomerPlan) → numbered plan.customers number ≡ Some c
      → (other : Mark) (sent : Item) → IsSent plan shape rec other (vid_at plan entry) entry c.bridge c.port sent
      → AllByRecursion (λ item. is_of mark item ≡ true → item.hops ≡ sent.hops)
      (delivered (steps_of rec.customers number))
  delivered-hops number c at other sent s =
      All-imply (IsSentTo plan shape rec mark entry c) (λ item. is_of mark item ≡ true → item.hops ≡ sent.hops)
      (λ item h m. (h m).hops ∙ ap (λ ks. length ks + 1)
      (walk-unique (trees_of plan shape (vid_at plan entry) rooted followed.shows) entry.bridge (h m).way s.way
      c.bridge (h m).walk s.walk) ∙ sym s.hops)
      (delivered (steps_of rec.customers number)) (delivered-sent number c at)

  -- no item of the mark is delivered at its own port
  pub none-back : AllByRecursion (λ item. is_of mark item ≡ true → ⊥) (delivered (steps_of rec.customers mark.port))
  none-back =
      All-imply (IsSentTo plan shape rec mark entry entry) (λ item. is_of mark item ≡ true → ⊥)
      (λ item h m. subst (NotBack plan entry entry.bridge entry.port)
      (walk-unique (trees_of plan shape (vid_at plan entry) rooted followed.shows) entry.bridge (h m).way []
      entry.bridge (h m).walk refl) (h m).onward refl)
      (delivered (steps_of rec.customers mark.port)) (delivered-sent mark.port entry followed.planned)
