mod OfPictures
mod OfSvg
