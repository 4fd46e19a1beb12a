-- The desk of the unit where an event of the network happens, once it has heard the event's frames.
use Rattle.std.proofs.Common.{◌≡◌, ◌≢◌, ℕ, ◌<◌, List, [], ◌++◌, Bool, true, false, Option, Some, None, refl, sym, ap, ap₂, subst, ◌∙◌, ◌⊎◌, inl, inr, arith, append-nil}
use Rattle.std.specs.Prelude.{filter, slice_get}
use Rattle.std.specs.List.{range_with_len}
use Rattle.std.proofs.Math.ListN.{get_or}
use Rattle.levels.specs.declared.level.Party.{Party}
use Rattle.levels.specs.Rosters.{is_same_party, is_partner}
use Rattle.frame.specs.Pieces.{PieceView, pieces}
use Rattle.frame.specs.Ahead.{messages_ahead}
use Rattle.events.specs.declared.event.Event.{Event}
use Rattle.machine.specs.declared.line.OutLine.{OutLine}
use Rattle.machine.specs.Setup.{Setup}
use Rattle.machine.specs.Given.{is_given}
use Rattle.machine.specs.Machine.{State, address_of, hands, handed, gives, numbers_given, given_to, state}
use Rattle.machine.specs.Laws.{HandsNothing, HandsOne, given_if}
use Rattle.desk.specs.Deeds.{DeskState, party_at}
use Rattle.engine.specs.Genuine.{AreGenuine}
use Rattle.engine.specs.States.{peer, WireIs, StateIs}
use Rattle.engine.proofs.Cases.{bool_cases, same_party, two_parties}
use Rattle.engine.proofs.Giving.{is_new, number_if}
use Rattle.engine.proofs.Hearing.{HeardSome, in_places, line_if, one_if}
use Rattle.engine.specs.inside.Facts.{Laws, Fits}
use Rattle.engine.proofs.Peers.{peer_is, peer_address}
use Rattle.engine.specs.inside.Arrivals.{came, lines_given}

-- ---- nothing comes

-- of who hands nothing over, the list stays as it is
nothing_new : (m : Setup) (x : State) (e : Event) (s u : Party) (h : List PieceView)
    → handed m x e s u ≡ [] → numbers_given m x e s u ≡ []
    → AreGenuine (x.sent s u) h (x.arrived s u) (x.given s u)
    → AreGenuine (x.sent s u) h (handed m x e s u ++ x.arrived s u)
    (x.given s u ++ numbers_given m x e s u)
nothing_new m x e s u h none silent g =
    subst (AreGenuine (x.sent s u) h (handed m x e s u ++ x.arrived s u))
    (sym (ap (λ more. x.given s u ++ more) silent ∙ append-nil (x.given s u)))
    (subst (λ arrived. AreGenuine (x.sent s u) h arrived (x.given s u))
    (sym (ap (λ more. more ++ x.arrived s u) none)) g)

pub comes_nothing : (m : Setup) (x : State) (e : Event) (lines : List OutLine)
    (sent : List (List ℕ)) (u : Party) (st : DeskState) → HandsNothing m x e u
    → StateIs m x lines sent u st
    → StateIs m (came m e x) (lines ++ lines_given (given_to m x e u)) sent u st
comes_nothing m x e lines sent u st none s = record {
  address = s.address;
  partition = s.partition;
  frame = s.frame;
  next = s.next;
  told = s.told ∙ sym (ap (λ given. lines ++ lines_given given) none.given ∙ append-nil lines);
  wires = record {
    frames = s.wires.frames;
    rows = s.wires.rows;
    count = s.wires.count;
    messages = s.wires.messages;
    others = s.wires.others;
  };
  ours = s.ours ∙ sym none.arrivals;
  given = s.given ∙ sym none.count;
  genuine = λ a lt partners.
      nothing_new m x e (peer m u a) u (st.heard a) (none.none (peer m u a))
      (none.numbers (peer m u a)) (s.genuine a lt partners);
}

-- ---- pieces of one message come

-- the places of the pieces of message j that e hands over
abbrev pub places_of : Setup → Event → Party → Party → ℕ → List ℕ → List ℕ
places_of m e s u j body = filter (hands m e s u j body) (range_with_len 0 (pieces body))

-- when the message whose pieces come is given
given_when : (m : Setup) (x : State) (e : Event) (s u : Party) (j : ℕ) (body : List ℕ)
    (new : List (ℕ × ℕ)) → m.ahead ≡ messages_ahead → slice_get (x.sent s u) j ≡ Some body
    → handed m x e s u ≡ new
    → gives m x e s u j ≡ is_new body (x.arrived s u) (new ++ x.arrived s u) (x.given s u) j
unfolding gives
given_when m x e s u j body new ahead there own =
    ap (λ n. is_given n (slice_get (x.sent s u) j) (x.arrived s u)
    (handed m x e s u ++ x.arrived s u) (x.given s u) j) ahead
    ∙ ap (λ o. is_given messages_ahead o (x.arrived s u) (handed m x e s u ++ x.arrived s u)
    (x.given s u) j) there
    ∙ ap (λ now. is_given messages_ahead (Some body) (x.arrived s u) (now ++ x.arrived s u)
    (x.given s u) j) own

same_address : (m : Setup) (u s : Party) (a : ℕ) → peer m u a ≡ s → a ≡ address_of s
same_address m u s a same = sym (peer_address m u a) ∙ ap address_of same

pub comes_one : Laws → (m : Setup) (past : List Event) (e : Event) (lines : List OutLine)
    (sent : List (List ℕ)) (s u : Party) (j : ℕ) (body : List ℕ) (st st' : DeskState)
    → Fits m past → is_partner m.roster s u ≡ true
    → slice_get ((state m past).sent s u) j ≡ Some body
    → HandsOne m (state m past) e s u j body
    → HeardSome ((state m past).sent s u) (address_of s) j body (places_of m e s u j body)
    ((state m past).arrived s u) ((state m past).given s u) st st'
    → StateIs m (state m past) lines sent u st
    → StateIs m (came m e (state m past)) (lines ++ lines_given (given_to m (state m past) e u)) sent
    u st'
comes_one laws m past e lines sent s u j body st st' fits partners there one some is =
    let x = state m past in
    let before = x.arrived s u in
    let places = places_of m e s u j body in
    let given = gives m x e s u j in
    let at_s : peer m u (address_of s) ≡ s =
    peer_is laws m u s fits.roster (laws.back m.roster u s ∙ partners) in
    let new : given ≡ is_new body before (in_places j places ++ before) (x.given s u) j =
    given_when m x e s u j body (in_places j places) fits.ahead there one.own in
    let party : party_at st.partition (address_of s) ≡ s =
    ap (λ p. party_at p (address_of s)) is.partition ∙ at_s in
    record {
      address = some.address ∙ is.address;
      partition = some.partition ∙ is.partition;
      frame = some.frame ∙ is.frame;
      next = λ a lt. ap (λ streams. get_at streams a) some.streams ∙ is.next a lt;
      told = some.lines
          ∙ ap₂ (λ (ls : List OutLine) (b : Bool). ls
          ++ line_if b (party_at st.partition (address_of s)) body) is.told (sym new)
          ∙ ap (λ p. lines ++ line_if given p body) party
          ∙ ap (λ ls. lines ++ ls) (line_given given s body)
          ∙ sym (ap (λ g. lines ++ lines_given g) one.given);
      wires = subst (λ w. WireIs m (came m e x) sent u w) (sym some.wire) (record {
        frames = is.wires.frames;
        rows = is.wires.rows;
        count = is.wires.count;
        messages = is.wires.messages;
        others = is.wires.others;
      });
      ours =
          let own = some.ours in
          let was = is.ours in
          let all = one.arrivals in
          omega (arith, own, was, all);
      given =
          let own = some.given in
          let was = is.given in
          let all = one.count in
          let same : one_if given
          ≡ one_if (is_new body before (in_places j places ++ before) (x.given s u) j) =
          ap one_if new in
          omega (arith, own, was, all, same);
      genuine = λ a lt known. genuine_at new a lt known (bool_cases (is_same_party (peer m u a) s));
    }
  where
    get_at : List (Option ℕ) → ℕ → Option ℕ
    get_at streams a = get_or streams a None

    line_given : (b : Bool) (s : Party) (m : List ℕ)
        → line_if b s m ≡ lines_given (given_if b (record { from = s; body = m }))
    line_given true s m = refl
    line_given false s m = refl

    genuine_at : gives m (state m past) e s u j
        ≡ is_new body ((state m past).arrived s u)
        (in_places j (places_of m e s u j body) ++ (state m past).arrived s u)
        ((state m past).given s u) j
        → (a : ℕ) → a < 256 → is_partner m.roster u (peer m u a) ≡ true
        → (is_same_party (peer m u a) s ≡ true) ⊎ (is_same_party (peer m u a) s ≡ false)
        → AreGenuine ((state m past).sent (peer m u a) u) (st'.heard a)
        (handed m (state m past) e (peer m u a) u ++ (state m past).arrived (peer m u a) u)
        ((state m past).given (peer m u a) u ++ numbers_given m (state m past) e (peer m u a) u)
    genuine_at new a lt known (inl here) =
        let x = state m past in
        let same : peer m u a ≡ s = same_party (peer m u a) s here in
        let number : a ≡ address_of s = same_address m u s a same in
        subst (λ p. AreGenuine (x.sent p u) (st'.heard a) (handed m x e p u ++ x.arrived p u)
        (x.given p u ++ numbers_given m x e p u)) (sym same)
        (subst (λ n. AreGenuine (x.sent s u) (st'.heard n) (handed m x e s u ++ x.arrived s u)
        (x.given s u ++ numbers_given m x e s u)) (sym number)
        (subst (λ more. AreGenuine (x.sent s u) (st'.heard (address_of s))
        (handed m x e s u ++ x.arrived s u) (x.given s u ++ more))
        (sym (one.numbers ∙ ap (λ b. number_if b j) new))
        (subst (λ more. AreGenuine (x.sent s u) (st'.heard (address_of s)) (more ++ x.arrived s u)
        (x.given s u ++ number_if (is_new body (x.arrived s u)
        (in_places j (places_of m e s u j body) ++ x.arrived s u) (x.given s u) j) j))
        (sym one.own) some.genuine)))
    genuine_at new a lt known (inr away) =
        let x = state m past in
        let r = peer m u a in
        let differ : a ≢ address_of s = λ same. differ_at a away same in
        subst (λ h. AreGenuine (x.sent r u) h (handed m x e r u ++ x.arrived r u)
        (x.given r u ++ numbers_given m x e r u)) (sym (some.others a differ))
        (nothing_new m x e r u (st.heard a) (one.others r away) (one.silent r away)
        (is.genuine a lt known))
      where
        differ_at : (a : ℕ) → is_same_party (peer m u a) s ≡ false → a ≡ address_of s → ⊥
        differ_at a away same =
            let at_s : peer m u (address_of s) ≡ s =
            peer_is laws m u s fits.roster (laws.back m.roster u s ∙ partners) in
            let there : peer m u a ≡ s = ap (peer m u) same ∙ at_s in
            two_parties (peer m u a) s away there
