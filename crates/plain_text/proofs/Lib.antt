mod OfDecimals
