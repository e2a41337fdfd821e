-- By hand, since the theorem's pairs and parameters do not stand in what is to be shown.
use Rattle.figures.proofs.Frames.{encoded_codes_fit}
use Rattle.figures.proofs.frame.encode_frame.Goals as goal

pub frame_codes-requires-clause-pitch : goal.frame_codes-requires-clause-pitch
frame_codes-requires-clause-pitch c = encoded_codes_fit.pitch _ _ _ c.in_ok-pitch.ensures

pub frame_codes-requires-clause-codebook : goal.frame_codes-requires-clause-codebook
frame_codes-requires-clause-codebook c = encoded_codes_fit.codebook _ _ _ c.in_ok-codebook.ensures
