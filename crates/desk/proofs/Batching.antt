-- A batch that grows keeps to what fits into a turn.
use Rattle.std.proofs.Common.{◌≡◌, ℕ, ◌+◌, ◌-◌, ◌<◌, ◌≤◌, zero, suc, List, [], ◌∷◌, ◌++◌, length, replicate, take, Bool, true, false, cond, refl, sym, ◌∙◌, ap, append-nil, length-append, arith}
use Rattle.std.proofs.lemmas.List.{map-append, length-replicate, take_all}
use Rattle.levels.specs.declared.level.Party.{Party}
use Rattle.unit_core.specs.Views.{OutgoingView}
use Rattle.desk.specs.declared.batch.Waiting.{Waiting}
use Rattle.desk.specs.declared.batch.Waiting.TheVariants.{Send, Frame}
use Rattle.desk.specs.Views.{BatchView}
use Rattle.desk.specs.inside.Merging.{IsBatch, batch_send, sizes_in, size_of}

sizes_more : (order more : List Waiting) → sizes_in (order ++ more) ≡ sizes_in order ++ sizes_in more
sizes_more [] more = refl
sizes_more (Send to size ∷ order) more = ap (λ rest. size ∷ rest) (sizes_more order more)
sizes_more (Frame ∷ order) more = sizes_more order more

no_sizes : (n : ℕ) → sizes_in (replicate n Frame) ≡ []
no_sizes zero = refl
no_sizes (suc n) = no_sizes n

pub one_send : (b : BatchView) (a : ℕ) (to : Party) (m : List ℕ) → IsBatch b → length b.sends < 4
    → IsBatch (batch_send b a to m)
one_send b a to m is room =
    let send : OutgoingView = record { to = a; message = m } in
    record {
      sends = omega (arith, length-append b.sends (send ∷ []));
      frames = is.frames;
      sizes = sizes_more b.order (Send to (length m) ∷ []) ∙ ap (λ sizes. sizes ++ length m ∷ []) is.sizes
          ∙ sym (map-append size_of b.sends (send ∷ []));
      all = omega (arith, is.all, length-append b.sends (send ∷ []), length-append b.order (Send to (length m) ∷ []));
    }

pub more_frames : (b : BatchView) (n : ℕ) (frames : List (List ℕ)) → IsBatch b → length frames ≤ length b.frames + n
    → length b.frames + n ≤ 256
    → IsBatch (record { order = b.order ++ replicate n Frame; sends = b.sends; frames = frames })
more_frames b n frames is some room = record {
  sends = is.sends;
  frames = omega (arith, some, room);
  sizes = sizes_more b.order (replicate n Frame) ∙ ap (λ sizes. sizes_in b.order ++ sizes) (no_sizes n)
      ∙ append-nil (sizes_in b.order) ∙ is.sizes;
  all = omega (arith, is.all, some, length-append b.order (replicate n Frame), length-replicate n Frame);
}

-- what a list is that may have grown
pub grown : (b : Bool) (xs ys zs : List (List ℕ)) → xs ≡ cond b (ys ++ zs) ys → length xs ≤ length ys + length zs
grown true xs ys zs is = omega (arith, ap length is, length-append ys zs)
grown false xs ys zs is = omega (arith, ap length is)

-- a list that is filled up
pub filled : (order : List Waiting) (end size n : ℕ) → size ≡ length order → end ≡ size + n
    → take end order ++ replicate (end - size) Frame ≡ order ++ replicate n Frame
filled order end size n is more =
    ap (λ front. front ++ replicate (end - size) Frame) (take_all end order (omega (arith, is, more)))
    ∙ ap (λ k. order ++ replicate k Frame) (omega (arith, is, more))
