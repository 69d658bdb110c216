mod FourWords
