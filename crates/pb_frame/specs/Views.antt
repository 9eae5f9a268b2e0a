-- The parts of a frame.
use Rattle.std.specs.Prelude.{◌≡◌, ℕ, List}
use Rattle.pb_frame.specs.Frames.{dst_of, src_of, kind_of, rest_of}
use Rattle.pb_frame.specs.declared.layout.View.{View}

-- the view has the parts of this frame
pub record IsView (frame : List ℕ) (v : View) : Type 0 where
  pub dst : v.dst.0 ≡ dst_of frame
  pub src : v.src.0 ≡ src_of frame
  pub kind : v.kind ≡ kind_of frame
  pub rest : v.rest.now ≡ rest_of frame
