-- Operations in order (used by the functions of `opened.rt`).
use Rattle.std.proofs.Common.{◌≡◌, List, [], ◌++◌, Option, Some, None, refl, sym, ap, ◌∙◌, subst, append_assoc}
use Rattle.std.proofs.Common.{append-nil}
use Rattle.pb_run_ports.specs.Deeds.{Adds, Begun, HasBegun}
use Rattle.pb_run_ports.specs.declared.deed.Deed.{Deed}

-- no operation follows
pub Adds-nil : (before : Option (List Deed)) → Adds before before []
Adds-nil None = tt
Adds-nil (Some done) = ap Some (sym (append-nil done))

-- operations that follow operations
pub Adds-trans : (a b c : Option (List Deed)) (ds es : List Deed) → Adds a b ds → Adds b c es → Adds a c (ds ++ es)
Adds-trans None b c ds es p q = tt
Adds-trans (Some done) b c ds es p q =
    let last : c ≡ Some (done ++ ds ++ es) = subst (λ known. Adds known c es) p q in last
    ∙ ap Some (append_assoc done ds es)

-- all operations remain
pub begun_none : (a : Option (List Deed)) (all : List Deed) → Begun a a all all
begun_none a all = record { first = []; done = Adds-nil a; whole = refl }

-- the next of the remaining operations were done
pub begun_more : (a b c : Option (List Deed)) (all rest ds left : List Deed) → Begun a b all rest → rest ≡ ds ++ left
    → Adds b c ds → Begun a c all left
begun_more a b c all rest ds left begun next done = record {
  first = begun.first ++ ds;
  done = Adds-trans a b c begun.first ds begun.done done;
  whole = append_assoc begun.first ds left ∙ ap (λ l. begun.first ++ l) (sym next) ∙ begun.whole;
}

-- no operation remains, and all were done
pub begun_all : (a b : Option (List Deed)) (all rest : List Deed) → Begun a b all rest → rest ≡ [] → Adds a b all
begun_all a b all rest begun none =
    subst (Adds a b) (sym (append-nil begun.first) ∙ ap (λ l. begun.first ++ l) (sym none) ∙ begun.whole) begun.done

-- a beginning of the operations is one of a longer list
pub has_begun_front : (a b : Option (List Deed)) (all more : List Deed) → HasBegun a b all → HasBegun a b (all ++ more)
has_begun_front a b all more (rest, begun) = (
  rest ++ more,
  record {
    first = begun.first;
    done = begun.done;
    whole = sym (append_assoc begun.first rest more) ∙ ap (λ l. l ++ more) begun.whole;
  },
)

-- a beginning after operations that were all done
pub has_begun_after : (a b c : Option (List Deed)) (front all : List Deed) → Adds a b front → HasBegun b c all
    → HasBegun a c (front ++ all)
has_begun_after a b c front all done (rest, begun) = (
  rest,
  record {
    first = front ++ begun.first;
    done = Adds-trans a b c front begun.first done begun.done;
    whole = append_assoc front begun.first rest ∙ ap (λ l. front ++ l) begun.whole;
  },
)

-- a beginning with the next of the remaining operations
pub has_begun_more : (a b c : Option (List Deed)) (all rest ds left whole : List Deed) → Begun a b all rest
    → rest ≡ ds ++ left → Adds b c ds → all ≡ whole → HasBegun a c whole
has_begun_more a b c all rest ds left whole begun next done same =
    (left, subst (λ deeds. Begun a c deeds left) same (begun_more a b c all rest ds left begun next done))

-- a beginning after which nothing was done
pub has_begun_still : (a b c : Option (List Deed)) (all rest whole : List Deed) → Begun a b all rest → c ≡ b
    → all ≡ whole → HasBegun a c whole
has_begun_still a b c all rest whole begun still same =
    (rest, subst (λ deeds. Begun a c deeds rest) same (subst (λ after. Begun a after all rest) (sym still) begun))
